-- Values that disks restore: each is what an image and the batches behind it lead to.
use Rattle.std.proofs.Common.{◌≡◌, ℕ, Bool, true, false, List, [], ◌∷◌, ◌++◌}
use Rattle.std.proofs.Common.{IfSome, Option, Some, None, inl, inr, ⊎_elim, refl, sym, ◌∙◌, subst, ap}
use Rattle.std.proofs.Common.{◌+◌, cond, is_some, length}
use Rattle.std.specs.Prelude.{◌||◌}
use Rattle.std.proofs.lemmas.Bool.{false≢true}
use Rattle.std.proofs.Math.Logic.{∥∥₁_elim}
use Rattle.std.proofs.Props.{props}
use Rattle.disk.specs.Areas.{Areas, part}
use Rattle.disk_shelf.specs.Logs.{EndsAt, IsBehind, IsKept, IsLoggedIf, IsLoggedTo, IsPlain}
use Rattle.disk_shelf.specs.Logs.{IsWholeOn, LeadAll, OldOrWhole, StaysPlain}
use Rattle.disk_shelf.specs.Logs.{Opens, OpensIf, Restores}
use Rattle.disk_shelf.specs.Shelf.{half, image_at, opened, recorded, side}
use Rattle.disk.specs.Crashes.{LeavesOnly, Only}
use Rattle.disk_shelf.proofs.Moments.{weaker}
use Rattle.disk_shelf.proofs.Quiet.{same_some, some_no_none}
use Rattle.disk_shelf.proofs.Logs.{one_meaning, selected_if}
use Rattle.disk_shelf.proofs.Sides.{image_on}
use Rattle.disk_shelf.proofs.Turns.{ends_first}
use Rattle.disk_shelf.proofs.Values.{lead_more}
use Rattle.disk_journal.specs.Journal.{RestoresEither}

-- ---- which image is found

-- an area that holds an image, with a log or without one
holds_image : (logged : Bool) (image : List ℕ) (batches : List (List ℕ)) (held : List ℕ) →
    IsLoggedIf logged image batches held → recorded held ≡ Some image
holds_image true image batches held holds = holds.0
holds_image false image batches held holds = holds.0

pub found_here : {logged : Bool} {image other : List ℕ} {batches : List (List ℕ)} (in_b : Bool)
    (d : Areas) → side d.select ≡ Some in_b → recorded (part (half in_b) d) ≡ Some image →
    OpensIf logged other batches d → other ≡ image
found_here {logged} {image} {other} {batches} in_b d selected is opens =
    same_some (sym (holds_image logged other batches (part (half in_b) d)
    (selected_if {logged = logged} in_b d selected opens)) ∙ is)

one_image : (first second : Bool) {i j : List ℕ} {bs cs : List (List ℕ)} (d : Areas) →
    OpensIf first i bs d → OpensIf second j cs d → i ≡ j
one_image first second {i} {j} {bs} {cs} d a b =
    found_here {logged = first} b.in_b d b.selected
    (holds_image second j cs (part (half b.in_b) d) b.holds) a

pub placed_opens : {logged : Bool} {image : List ℕ} {d : Areas} (in_b : Bool) →
    side d.select ≡ Some in_b → IsLoggedIf logged image [] (part (half in_b) d) →
    OpensIf logged image [] d
placed_opens in_b selected holds = record { in_b = in_b; selected = selected; holds = holds }

-- the image that counts
pub opens_image : {logged : Bool} {image : List ℕ} {batches : List (List ℕ)} {d : Areas} →
    OpensIf logged image batches d → opened d ≡ Some image
opens_image {logged} {image} {batches} {d} found =
    ap (λ (o : Option Bool). image_at o d) found.selected ∙ image_on found.in_b d
    ∙ holds_image logged image batches (part (half found.in_b) d) found.holds

same_batches : (logged : Bool) {image : List ℕ} {bs cs : List (List ℕ)} (d : Areas) →
    OpensIf logged image bs d → OpensIf logged image cs d → bs ≡ cs
same_batches true {image} {bs} {cs} d a b = (one_meaning image image bs cs d a b).1
same_batches false d a b = a.holds.1 ∙ sym b.holds.1

-- batches lead from one value to one value
module _ {V : Type 0} {leads : List ℕ → V → V → Type 0}
    (one_end : (batch : List ℕ) (first v w : V) → leads batch first v → leads batch first w → v ≡ w)
  where
    one_lead : (batches : List (List ℕ)) (first v w : V) → LeadAll leads batches first v →
        LeadAll leads batches first w → v ≡ w
    one_lead [] first v w a b = sym a ∙ b
    one_lead (batch ∷ rest) first v w a b =
        one_lead rest b.0 v w
        (subst (λ x. LeadAll leads rest x v) (one_end batch first a.0 b.0 a.1 b.1) a.2) b.2

-- ---- values

module _ {V : Type 0} {logs : List ℕ → Bool} {reads : List ℕ → V → Type 0}
    {leads : List ℕ → V → V → Type 0} where
  -- an image with an empty log, or without one
  pub restores_image : {logged : Bool} {image : List ℕ} {value : V} {d : Areas} →
      logs image ≡ logged → reads image value → OpensIf logged image [] d →
      Restores logs reads leads value d
  restores_image {logged} {image} {value} {d} is read opens = record {
    image = image;
    batches = [];
    first = value;
    found = subst (λ b. OpensIf b image [] d) (sym is) opens;
    read = read;
    led = refl;
  }

  -- an image with the batches that were performed
  pub restores_all : {image : List ℕ} {batches : List (List ℕ)} {last : V} {d : Areas}
      (first : V) → logs image ≡ true → reads image first → Opens image batches d →
      LeadAll leads batches first last → Restores logs reads leads last d
  restores_all {image} {batches} {last} {d} first is read opens led = record {
    image = image;
    batches = batches;
    first = first;
    found = subst (λ b. OpensIf b image batches d) (sym is) opens;
    read = read;
    led = led;
  }

  module _ (one_value : (bytes : List ℕ) (v w : V) → reads bytes v → reads bytes w → v ≡ w)
      (one_end : (batch : List ℕ) (first v w : V) → leads batch first v → leads batch first w
      → v ≡ w) where
    pub restores_one : (v w : V) (d : Areas) → Restores logs reads leads v d →
        Restores logs reads leads w d → v ≡ w
    restores_one v w d a b =
        let same = one_image (logs a.image) (logs b.image) d a.found b.found in
        let first : a.first ≡ b.first = one_value b.image a.first b.first
        (subst (λ i. reads i a.first) same a.read) b.read in
        let found : OpensIf (logs b.image) b.image a.batches d =
        subst (λ i. OpensIf (logs i) i a.batches d) same a.found in
        let batches = same_batches (logs b.image) d found b.found in
        one_lead one_end b.batches b.first v w
        (subst (λ x. LeadAll leads b.batches x v) first
        (subst (λ l. LeadAll leads l a.first v) batches a.led)) b.led

  -- a disk that restores a value opens to its image
  restores_opened : {v : V} {d : Areas} (r : Restores logs reads leads v d) →
      opened d ≡ Some r.image
  restores_opened r = opens_image r.found

  pub restores_some : {v : V} {d : Areas} → Restores logs reads leads v d → opened d ≡ None → ⊥
  restores_some r none = some_no_none (restores_opened r) none

  pub restores_read : {v : V} {d : Areas} {image : List ℕ} (r : Restores logs reads leads v d) →
      opened d ≡ Some image → reads image r.first
  restores_read r is =
      subst (λ i. reads i r.first) (same_some (sym (restores_opened r) ∙ is)) r.read

  -- ---- a journal whose log ends at an offset

  -- the log of the value that the disk opens to
  pub found_log : {v : V} {last : Option ℕ} {end : ℕ} {in_b : Bool} {d : Areas} →
      side d.select ≡ Some in_b → IsBehind logs last (part (half in_b) d) → last ≡ Some end →
      (r : Restores logs reads leads v d) →
      (logs r.image ≡ true) × Opens r.image r.batches d
  found_log {end = end} {in_b} {d} selected behind ends r =
      let is = holds_image (logs r.image) r.image r.batches (part (half in_b) d)
      (selected_if {logged = logs r.image} in_b d selected r.found) in
      let logged = (behind end ends).1 r.image is in
      (logged, subst (λ b. OpensIf b r.image r.batches d) logged r.found)

  -- a batch was added to that log
  pub restores_more : {v w : V} {batch : List ℕ} {d c : Areas} (r : Restores logs reads leads v d) →
      logs r.image ≡ true → leads batch v w → Opens r.image (r.batches ++ batch ∷ []) c →
      Restores logs reads leads w c
  restores_more {v} {w} {batch} r logged led opens =
      restores_all r.first logged r.read opens
      (lead_more leads r.batches batch r.first v w r.led led)

  -- the log stayed
  pub restores_still : {v : V} {d c : Areas} (r : Restores logs reads leads v d) →
      OpensIf (logs r.image) r.image r.batches c → Restores logs reads leads v c
  restores_still r found = record {
    image = r.image;
    batches = r.batches;
    first = r.first;
    found = found;
    read = r.read;
    led = r.led;
  }

  -- the log stayed, or an image took its place
  restores_turned : {logged : Bool} {image : List ℕ} {old new : V} {d c : Areas}
      (r : Restores logs reads leads old d) → logs image ≡ logged → reads image new →
      OldOrWhole (logs r.image) r.image r.batches logged image c →
      RestoresEither logs reads leads old new c
  restores_turned r logged read =
      ⊎_elim (λ stays. inl (restores_still r stays))
      (λ opens. inr (restores_image logged read opens))

  -- at any moment of that write, of an image that is spelled so
  pub turned_leaves : {D : Type 0} {moment : D → ℕ} {left_since : D → ℕ → Areas → Type 0}
      {before after : D} {logged : Bool} {image spelled : List ℕ} {old new : V} {d : Areas} →
      logs image ≡ logged → reads image new → spelled ≡ image
      → (r : Restores logs reads leads old d) →
      LeavesOnly moment left_since before after
      (OldOrWhole (logs r.image) r.image r.batches logged spelled) →
      LeavesOnly moment left_since before after (RestoresEither logs reads leads old new)
  turned_leaves {moment = moment} {left_since} {before} {after} {logged} says read same r run =
      weaker (subst (λ l. LeavesOnly moment left_since before after
      (OldOrWhole (logs r.image) r.image r.batches logged l)) same run)
      (λ c. restores_turned r says read)

-- ---- where the log of a journal ends

module _ {D : Type 0} {seen : D → Areas} {may_leave : D → Areas → Type 0}
    {logs : List ℕ → Bool} where
  -- an image was written, which a log follows or not
  pub kept_whole : {new : D} (image : List ℕ) {in_b logged : Bool} {end : Option ℕ} →
      IsWholeOn seen may_leave new in_b logged image → logs image ≡ logged →
      end ≡ cond logged (Some (8 + length image)) None →
      IsKept seen may_leave logs new in_b end
  kept_whole {new} image {in_b} {logged} {end} whole follows ends = record {
    only = whole.0;
    selected = whole.1;
    holds = ap is_some (holds_image logged image [] held whole.2);
    behind = by logged whole.2 follows ends;
  }
    where
      held : List ℕ
      held = part (half in_b) (seen new)

      by : (b : Bool) → IsLoggedIf b image [] held → logs image ≡ b →
          end ≡ cond b (Some (8 + length image)) None → IsBehind logs end held
      by true is follows ends e at = (
        ∣ subst (λ n. EndsAt n held) (same_some (sym ends ∙ at)) (ends_first image held is) ∣₁,
        λ i recorded. subst (λ x. logs x ≡ true) (same_some (sym is.0 ∙ recorded)) follows,
      )
      by false is follows ends e at = absurd (some_no_none at ends)

  -- a batch was added behind a gate
  pub kept_more : {new : D} {last : Option ℕ} {in_b : Bool} {end next : ℕ} {s : Areas}
      (batch : List ℕ) → side s.select ≡ Some in_b → IsBehind logs last (part (half in_b) s) →
      last ≡ Some end → IsLoggedTo seen may_leave new in_b next →
      ((image : List ℕ) (batches : List (List ℕ)) → Opens image batches s →
      Opens image (batches ++ batch ∷ []) (seen new)) →
      IsKept seen may_leave logs new in_b (Some next)
  kept_more {new} {in_b = in_b} {end} {s = s} batch selected behind ends logged added = record {
    only = logged.0;
    selected = logged.1;
    holds = ∥∥₁_elim logged.2 (hlevel props) (λ found. ap is_some found.logged.0);
    behind = λ e is. (
      subst (λ n. ∥ EndsAt n (part (half in_b) (seen new)) ∥₁) (same_some is) logged.2,
      λ i recorded. ∥∥₁_elim (behind end ends).0 (hlevel props) (λ found.
          let opens : Opens found.image found.batches s =
          record { in_b = in_b; selected = selected; holds = found.logged } in
          subst (λ x. logs x ≡ true)
          (found_here {logged = true} in_b (seen new) logged.1 recorded
          (added found.image found.batches opens))
          ((behind end ends).1 found.image found.logged.0)),
    );
  }

-- the same place, at which perhaps no batch is added
pub kept_less : {D : Type 0} {seen : D → Areas} {may_leave : D → Areas → Type 0}
    {logs : List ℕ → Bool} {disk : D} {in_b other : Bool} {last less : Option ℕ} →
    IsKept seen may_leave logs disk in_b last → other ≡ in_b
    → IfSome less (λ end. last ≡ Some end) →
    IsKept seen may_leave logs disk other less
kept_less {seen = seen} {may_leave} {logs} {disk} {in_b} {last = last}
    {less = less} kept same some =
    subst (λ b. IsKept seen may_leave logs disk b less) (sym same) (record {
      only = kept.only;
      selected = kept.selected;
      holds = kept.holds;
      behind = λ end is.
          kept.behind end (subst (λ o. IfSome o (λ e. last ≡ Some e)) is some);
    })

pub none_less : {last less : Option ℕ} → last ≡ None → IfSome less (λ end. last ≡ Some end) →
    less ≡ None
none_less {less = None} none some = refl
none_less {less = Some end} none some = absurd (some_no_none some none)

pub neither : (a b : Bool) → (a || b) ≡ false → (a ≡ false) × (b ≡ false)
neither false b none = (refl, none)
neither true b none = absurd (false≢true (sym none))

pub is_none : {A : Type 0} (o : Option A) → is_some o ≡ false → o ≡ None
is_none None none = refl
is_none (Some x) none = absurd (false≢true (sym none))

-- ---- a disk whose image no log follows

module _ (logs : List ℕ → Bool) where
  pub plain_opens : {logged : Bool} {image : List ℕ} {batches : List (List ℕ)} {c : Areas} →
      logs image ≡ false → OpensIf logged image batches c → IsPlain logs c
  plain_opens plain opens image is =
      subst (λ x. logs x ≡ false) (same_some (sym (opens_image opens) ∙ is)) plain

  pub plain_only : (here : Areas) (may_leave : Areas → Type 0) → Only here may_leave →
      IsPlain logs here → StaysPlain logs may_leave
  plain_only here may_leave only plain c left = subst (IsPlain logs) (sym (only c left)) plain

  -- a new image is written in place of the old one; at that moment a crash may leave this
  pub plain_turned : {D : Type 0} {seen : D → Areas} {may_leave : D → Areas → Type 0} {disk : D}
      {in_b logged : Bool} {last : Option ℕ} {new : List ℕ} {c : Areas} →
      IsKept seen may_leave logs disk in_b last → IsPlain logs (seen disk) → logs new ≡ false →
      ((old : List ℕ) → OpensIf false old [] (seen disk) → OldOrWhole false old [] logged new c) →
      IsPlain logs c
  plain_turned {seen = seen} {disk = disk} {in_b} {c = c} kept plain follows leaves =
      by (recorded (part (half in_b) (seen disk))) refl kept.holds
    where
      by : (o : Option (List ℕ)) → recorded (part (half in_b) (seen disk)) ≡ o →
          is_some o ≡ true → IsPlain logs c
      by None is some = absurd (false≢true some)
      by (Some old) is some =
          let opens : OpensIf false old [] (seen disk) =
          record { in_b = in_b; selected = kept.selected; holds = (is, refl) } in
          ⊎_elim (plain_opens (plain old (opens_image opens))) (plain_opens follows)
          (leaves old opens)
