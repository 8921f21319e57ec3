-- Logs of batches: what they need of the bytes, and how they grow.
use Rattle.std.proofs.Common.{◌≡◌, ◌⊎◌, inl, inr, ⊎_elim, ℕ, ◌+◌, ◌≤◌, ◌%◌, ◌==◌}
use Rattle.std.proofs.Common.{Bool, true, false, Result, Ok, Err, OnOk, List, [], ◌∷◌, ◌++◌, length, take, drop, Option, Some, None}
use Rattle.std.proofs.Common.{refl, sym, ◌∙◌, ap, subst, arith, length-drop, append_assoc}
use Rattle.std.proofs.lemmas.List.{append-nil, take-take, drop-take, drop-drop, drop_at}
use Rattle.std.proofs.lemmas.List.{length-take-le}
use Rattle.std.specs.Int.{w64, from_be_bytes}
use Rattle.std.proofs.lemmas.Bool.Decides.{leb_tells}
use Rattle.disk_shelf.specs.declared.persist.TheConstants.{GREATEST_SAVED}
use Rattle.disk.specs.Areas.{Areas, part, Changes, Holds, Torn}
use Rattle.std.proofs.Math.Logic.{∥∥₁_elim, ∥∥₁_map}
use Rattle.std.proofs.Props.{props}
use Rattle.disk.specs.Crashes.{Only}
use Rattle.disk_shelf.specs.Logs.{EndsAt, HasLog, IsLogged, IsLoggedIf, IsShut, log_length, OldOrNewLog}
use Rattle.disk_shelf.specs.Logs.{Opens, OpensIf}
use Rattle.disk.specs.declared.device.Area.{Area}
use Rattle.disk_shelf.specs.Shelf.{told, recorded, record_of, side, half}
use Rattle.disk_shelf.proofs.Records.{recorded_cut, recorded_front, recorded_is, recorded_tells}
use Rattle.disk_shelf.proofs.Records.{record_length}
use Rattle.disk_shelf.proofs.Sides.{some_length}
use Rattle.disk.proofs.Torn.{torn_pasted}

-- bytes at an offset stay when a longer front stays
part_kept : (a b n : ℕ) (old new : List ℕ) → a + b ≤ n → take n new ≡ take n old →
    take b (drop a new) ≡ take b (drop a old)
part_kept a b n old new le same =
    let front : (l : List ℕ) → take (a + b) (take n l) ≡ take (a + b) l =
    λ l. take-take (a + b) n l le in
    sym (drop-take a b new)
    ∙ ap (drop a) (sym (front new) ∙ ap (take (a + b)) same ∙ front old)
    ∙ drop-take a b old

-- an area that holds an image has that many bytes
recorded_inside : (held image : List ℕ) → recorded held ≡ Some image →
    (told held ≡ length image) × (8 + length image ≤ length held)
recorded_inside held image is =
    let tells = recorded_tells held image is in
    let inside : told held + 8 ≤ length held =
    ⊎_elim (λ fits. fits.1) (λ cut. let none = recorded_cut held cut.1 in absurd cc)
    (leb_tells (told held + 8) (length held)) in
    let whole = recorded_is held (told held) refl tells.1.most inside in
    let same : take (told held) (drop 8 held) ≡ image = some_same (sym whole ∙ is) in
    let long : length (take (told held) (drop 8 held)) ≡ told held =
    length-take-le (told held) (drop 8 held) (omega (arith, inside, length-drop 8 held)) in
    let count : told held ≡ length image = sym long ∙ ap length same in
    (count, omega (arith, count, inside))
  where
    some_same : {x y : List ℕ} → ◌≡◌ {A = Option (List ℕ)} (Some x) (Some y) → x ≡ y
    some_same both = cc both

-- an image needs only the bytes of its record
recorded_kept : (held new image : List ℕ) → recorded held ≡ Some image →
    take (8 + length image) new ≡ take (8 + length image) held → 8 + length image ≤ length new →
    recorded new ≡ Some image
unfolding told
recorded_kept held new image is same long =
    let inside = recorded_inside held image is in
    let tells = recorded_tells held image is in
    let first : take 8 new ≡ take 8 held =
    part_kept 0 8 (8 + length image) held new (omega arith) same in
    let says : told new ≡ told held = ap (from_be_bytes w64) first in
    let rest : take (told held) (drop 8 new) ≡ take (told held) (drop 8 held) =
    part_kept 8 (told held) (8 + length image) held new (omega (arith, inside.0)) same in
    recorded_is new (told held) says tells.1.most (omega (arith, inside.0, long))
    ∙ ap Some rest
    ∙ sym (recorded_is held (told held) refl tells.1.most (omega (arith, inside.0, inside.1)))
    ∙ is

-- a gate needs only its byte
side_front : (l : List ℕ) → side (take 1 l) ≡ side l
side_front [] = refl
side_front (x ∷ l) = refl

side_kept : (a n : ℕ) (old new : List ℕ) → a + 1 ≤ n → take n new ≡ take n old →
    side (drop a new) ≡ side (drop a old)
side_kept a n old new le same =
    sym (side_front (drop a new)) ∙ ap side (part_kept a 1 n old new le same)
    ∙ side_front (drop a old)

-- what follows a log of which only the last gate may have changed
pub log_grown : (batches more : List (List ℕ)) (rest new : List ℕ) → HasLog batches rest →
    take (log_length batches) new ≡ take (log_length batches) rest →
    log_length batches ≤ length new → HasLog more (drop (log_length batches) new) →
    HasLog (batches ++ more) new
log_grown [] more rest new log same long behind = behind
log_grown (batch ∷ tail) more rest new log same long behind =
    let k = 9 + length batch in
    let n = k + log_length tail in
    let gate : side new ≡ Some true =
    side_kept 0 n rest new (omega arith) same ∙ log.0 in
    let whole : recorded (drop 1 new) ≡ Some batch =
    recorded_kept (drop 1 rest) (drop 1 new) batch log.1
    (part_kept 1 (8 + length batch) n rest new (omega arith) same)
    (omega (arith, long, length-drop 1 new)) in
    let further : HasLog more (drop (log_length tail) (drop k new)) =
    subst (HasLog more) (sym (drop-drop (log_length tail) k new)) behind in
    let tail_log : HasLog (tail ++ more) (drop k new) =
    log_grown tail more (drop k rest) (drop k new) log.2
    (part_kept k (log_length tail) n rest new (omega arith) same)
    (omega (arith, long, length-drop k new)) further in
    (gate, whole, tail_log)

-- the last gate of a log is even
pub log_ends : (batches : List (List ℕ)) (rest : List ℕ) → HasLog batches rest →
    side (drop (log_length batches) rest) ≡ Some false
log_ends [] rest log = log
log_ends (batch ∷ tail) rest log =
    ap side (sym (drop-drop (log_length tail) (9 + length batch) rest))
    ∙ log_ends tail (drop (9 + length batch) rest) log.2

-- bytes hold one log at most
pub one_log : (first second : List (List ℕ)) (rest : List ℕ) → HasLog first rest →
    HasLog second rest → first ≡ second
one_log [] [] rest a b = refl
one_log [] (y ∷ second) rest a b = absurd (gates (sym a ∙ b.0))
  where
    gates : ◌≡◌ {A = Option Bool} (Some false) (Some true) → ⊥
    gates is = absurd cc
one_log (x ∷ first) [] rest a b = absurd (gates (sym b ∙ a.0))
  where
    gates : ◌≡◌ {A = Option Bool} (Some false) (Some true) → ⊥
    gates is = absurd cc
one_log (x ∷ first) (y ∷ second) rest a b =
    let same : x ≡ y = some_same (sym a.1 ∙ b.1) in
    let other : HasLog second (drop (9 + length x) rest) =
    subst (λ l. HasLog second (drop (9 + length l) rest)) (sym same) b.2 in
    cons_same same (one_log first second (drop (9 + length x) rest) a.2 other)
  where
    some_same : {x y : List ℕ} → ◌≡◌ {A = Option (List ℕ)} (Some x) (Some y) → x ≡ y
    some_same both = cc both

    cons_same : {x y : List ℕ} {xs ys : List (List ℕ)} → x ≡ y → xs ≡ ys → x ∷ xs ≡ y ∷ ys
    cons_same one more = cc (one, more)

-- bytes without a gate hold no log, nor do those with an odd one and no batch behind it
pub no_gate : (batches : List (List ℕ)) (rest : List ℕ) → side rest ≡ None →
    HasLog batches rest → ⊥
no_gate [] rest none log =
    let both : ◌≡◌ {A = Option Bool} None (Some false) = sym none ∙ log in absurd cc
no_gate (batch ∷ more) rest none log =
    let both : ◌≡◌ {A = Option Bool} None (Some true) = sym none ∙ log.0 in absurd cc

pub no_batch : (batches : List (List ℕ)) (rest : List ℕ) → side rest ≡ Some true →
    recorded (drop 1 rest) ≡ None → HasLog batches rest → ⊥
no_batch [] rest odd none log =
    let both : ◌≡◌ {A = Option Bool} (Some true) (Some false) = sym odd ∙ log in absurd cc
no_batch (batch ∷ more) rest odd none log =
    let both : ◌≡◌ {A = Option (List ℕ)} None (Some batch) = sym none ∙ log.1 in absurd cc

-- what is behind the gate at an offset
pub next_here : (at : ℕ) {start : ℕ} {held held' : List ℕ} {found : Option (List ℕ)} →
    start ≡ at + 1 →
    held' ≡ held → recorded (drop start held') ≡ found → recorded (drop 1 (drop at held)) ≡ found
next_here at {start} {held} {held'} from same is =
    ap recorded (drop-drop 1 at held ∙ ap (λ n. drop n held) (sym from)
    ∙ ap (drop start) (sym same)) ∙ is

-- one more batch
pub log_more : (batches : List (List ℕ)) (batch : List ℕ) →
    log_length (batches ++ batch ∷ []) ≡ log_length batches + (9 + length batch)
log_more [] batch = omega arith
log_more (x ∷ tail) batch = omega (arith, log_more tail batch)

-- a gate is at this offset
gate_inside : (a : ℕ) (l : List ℕ) (odd : Bool) → side (drop a l) ≡ Some odd → a + 1 ≤ length l
gate_inside a l odd is = omega (arith, some_length (drop a l) odd is, length-drop a l)

pub side_some : (l : List ℕ) → 1 ≤ length l → (side l ≡ Some false) ⊎ (side l ≡ Some true)
side_some [] long = absurd (omega (arith, long))
side_some (x ∷ l) long = of_bool (x % 2 == 1)
  where
    of_bool : (b : Bool) → (◌≡◌ {A = Option Bool} (Some b) (Some false))
        ⊎ (◌≡◌ {A = Option Bool} (Some b) (Some true))
    of_bool true = inr refl
    of_bool false = inl refl

-- an area holds this log, whose last gate is at this offset
pub record Ends (end : ℕ) (image : List ℕ) (batches : List (List ℕ)) (held : List ℕ) : Type 0 where
  pub logged : IsLogged image batches held
  pub offset : end ≡ 8 + length image + log_length batches

module _ {end : ℕ} {image : List ℕ} {batches : List (List ℕ)} {held : List ℕ}
    (ends : Ends end image batches held) where
  last_gate : side (drop end held) ≡ Some false
  last_gate =
      ap (λ n. side (drop n held)) ends.offset
      ∙ ap side (sym (drop-drop (log_length batches) (8 + length image) held))
      ∙ log_ends batches (drop (8 + length image) held) ends.logged.1

  pub end_inside : end + 1 ≤ length held
  end_inside = gate_inside end held false last_gate

  -- what is before the last gate stays, and this follows
  logged_grown : (more : List (List ℕ)) (new : List ℕ) → take end new ≡ take end held →
      end ≤ length new → HasLog more (drop end new) → IsLogged image (batches ++ more) new
  logged_grown more new same long behind =
      let b = 8 + length image in
      let whole = recorded_kept held new image ends.logged.0
      (part_kept 0 b end held new (omega (arith, ends.offset)) same)
      (omega (arith, ends.offset, long)) in
      let at_end : HasLog more (drop (log_length batches) (drop b new)) =
      subst (HasLog more) (ap (λ n. drop n new) ends.offset
      ∙ sym (drop-drop (log_length batches) b new)) behind in (
        whole,
        log_grown batches more (drop b held) (drop b new) ends.logged.1
            (part_kept b (log_length batches) end held new (omega (arith, ends.offset)) same)
            (omega (arith, ends.offset, long, length-drop b new)) at_end,
      )

  same_log : (new : List ℕ) → take end new ≡ take end held → end ≤ length new →
      side (drop end new) ≡ Some false → IsLogged image batches new
  same_log new same long gate =
      subst (λ l. IsLogged image l new) (append-nil batches) (logged_grown [] new same long gate)

  -- bytes behind the last gate may be torn
  pub behind_torn : (n : ℕ) (new : List ℕ) → Torn (end + 1) n held new →
      Ends end image batches new
  behind_torn n new torn = record {
    logged = same_log new (part_kept 0 end (end + 1) held new (omega arith) torn.before)
        (omega (arith, end_inside, torn.no_shorter))
        (side_kept end (end + 1) held new (omega arith) torn.before ∙ last_gate);
    offset = ends.offset;
  }

  module _ (batch rest : List ℕ) (fits : length batch ≤ GREATEST_SAVED)
      (laid : drop (end + 1) held ≡ record_of batch ++ 0 ∷ rest) where
    -- a batch is behind the last gate, which has become odd
    gate_opened : (new : List ℕ) → Torn end 1 held new → side (drop end new) ≡ Some true →
        Ends (end + 9 + length batch) image (batches ++ batch ∷ []) new
    gate_opened new torn gate =
        let behind : drop (end + 1) new ≡ record_of batch ++ 0 ∷ rest = torn.after ∙ laid in
        let whole : recorded (drop 1 (drop end new)) ≡ Some batch =
        ap recorded (drop-drop 1 end new ∙ behind) ∙ recorded_front batch (0 ∷ rest) fits in
        let last : drop (9 + length batch) (drop end new) ≡ 0 ∷ rest =
        drop-drop (9 + length batch) end new
        ∙ ap (λ n. drop n new) (omega arith)
        ∙ sym (drop-drop (8 + length batch) (end + 1) new)
        ∙ ap (drop (8 + length batch)) behind
        ∙ drop_at (record_of batch) (0 ∷ rest) (8 + length batch) (record_length batch) in
        record {
          logged = logged_grown (batch ∷ []) new torn.before
              (omega (arith, end_inside, torn.no_shorter)) (gate, whole, ap side last);
          offset = omega (arith, ends.offset, log_more batches batch);
        }

    -- the last gate may be torn then
    pub gate_torn : (new : List ℕ) → Torn end 1 held new →
        IsLogged image batches new ⊎ IsLogged image (batches ++ batch ∷ []) new
    gate_torn new torn =
        let long : end + 1 ≤ length new = omega (arith, end_inside, torn.no_shorter) in
        ⊎_elim
        (λ even. inl (same_log new torn.before (omega (arith, long)) even))
        (λ odd. inr (gate_opened new torn odd).logged)
        (side_some (drop end new) (omega (arith, long, length-drop end new)))

    -- and once it is written
    pub gate_written : (v : ℕ) (new : List ℕ) → (v % 2 == 1) ≡ true → Holds end (v ∷ []) held new →
        Ends (end + 9 + length batch) image (batches ++ batch ∷ []) new
    gate_written v new odd is =
        let front = take end held in
        let tail = drop (end + 1) held in
        let torn : Torn end 1 held new = subst (Torn end 1 held) (sym is)
        (torn_pasted end 1 (v ∷ []) held (omega (arith, end_inside)) (omega arith)) in
        let size : length front ≡ end = length-take-le end held (omega (arith, end_inside)) in
        let gate : drop end new ≡ v ∷ tail =
        ap (drop end) (is ∙ append_assoc front (v ∷ []) tail)
        ∙ drop_at front (v ∷ tail) end size in
        gate_opened new torn (ap side gate ∙ ap Some odd)

  -- a batch is laid behind the last gate
  pub batch_laid : (batch bytes new : List ℕ) → IsShut batch bytes →
      Holds (end + 1) bytes held new →
      drop (end + 1) new
      ≡ record_of batch
      ++ 0 ∷ (drop (9 + length batch) bytes ++ drop (end + 1 + length bytes) held)
  batch_laid batch bytes new spelled is =
      let front = take (end + 1) held in
      let tail = drop (end + 1 + length bytes) held in
      let size : length front ≡ end + 1 = length-take-le (end + 1) held end_inside in
      ap (drop (end + 1)) (is ∙ append_assoc front bytes tail)
      ∙ drop_at front (bytes ++ tail) (end + 1) size
      ∙ ap (λ l. l ++ tail) spelled
      ∙ append_assoc (record_of batch) (0 ∷ drop (9 + length batch) bytes) tail

  pub laid_ends : (bytes new : List ℕ) → Holds (end + 1) bytes held new →
      Ends end image batches new
  laid_ends bytes new is = behind_torn (length bytes) new
      (subst (Torn (end + 1) (length bytes) held) (sym is)
      (torn_pasted (end + 1) (length bytes) bytes held end_inside (omega arith)))

pub end_found : {end : ℕ} {held : List ℕ} → EndsAt end held → end + 1 ≤ length held
end_found {end} {held} found =
    let ends : Ends end found.image found.batches held =
    record { logged = found.logged; offset = found.offset } in
    end_inside ends

-- what the selected area holds
pub selected_if : {logged : Bool} {image : List ℕ} {batches : List (List ℕ)} (in_b : Bool)
    (d : Areas) → side d.select ≡ Some in_b → OpensIf logged image batches d →
    IsLoggedIf logged image batches (part (half in_b) d)
selected_if {logged} {image} {batches} in_b d is opens =
    subst (λ b. IsLoggedIf logged image batches (part (half b) d))
    (some_same (sym opens.selected ∙ is)) opens.holds
  where
    some_same : {x y : Bool} → ◌≡◌ {A = Option Bool} (Some x) (Some y) → x ≡ y
    some_same both = cc both

-- the log of the selected area
pub selected_log : {image : List ℕ} {batches : List (List ℕ)} (in_b : Bool) (d : Areas) →
    side d.select ≡ Some in_b → Opens image batches d → IsLogged image batches (part (half in_b) d)
selected_log in_b d is opens = selected_if {logged = true} in_b d is opens

-- a disk opens to one image and its batches at most
pub one_meaning : (i j : List ℕ) (bs cs : List (List ℕ)) (d : Areas) → Opens i bs d →
    Opens j cs d → (i ≡ j) × (bs ≡ cs)
one_meaning i j bs cs d first second =
    let other = selected_log first.in_b d first.selected second in
    let same : i ≡ j = some_same (sym first.holds.0 ∙ other.0) in
    let log : HasLog cs (drop (8 + length i) (part (half first.in_b) d)) =
    subst (λ l. HasLog cs (drop (8 + length l) (part (half first.in_b) d))) (sym same) other.1 in
    (same, one_log bs cs (drop (8 + length i) (part (half first.in_b) d)) first.holds.1 log)
  where
    some_same : {x y : List ℕ} → ◌≡◌ {A = Option (List ℕ)} (Some x) (Some y) → x ≡ y
    some_same both = cc both

-- the end that was found is that of this log
pub same_end : (end : ℕ) (image : List ℕ) (batches : List (List ℕ)) (in_b : Bool) (d : Areas) →
    side d.select ≡ Some in_b → EndsAt end (part (half in_b) d) → Opens image batches d →
    Ends end image batches (part (half in_b) d)
same_end end image batches in_b d is found opens =
    let mine : Opens found.image found.batches d =
    record { in_b = in_b; selected = is; holds = found.logged } in
    let one = one_meaning found.image image found.batches batches d mine opens in
    record {
      logged = selected_log in_b d is opens;
      offset = found.offset
          ∙ ap (λ l. 8 + length l + log_length found.batches) one.0
          ∙ ap (λ bs. 8 + length image + log_length bs) one.1;
    }

-- a step on the selected area
pub here_changed : (in_b : Bool) (step : List ℕ → List ℕ → Type 0) (s c : Areas) →
    side s.select ≡ Some in_b → Changes (half in_b) step s c →
    (side c.select ≡ Some in_b) × step (part (half in_b) s) (part (half in_b) c)
here_changed true step s c is ch = (ap side ch.1 ∙ is, ch.0)
here_changed false step s c is ch = (ap side ch.1 ∙ is, ch.0)

-- a batch is to be laid behind the last gate of the selected area
pub record Adding (in_b : Bool) (area : Area) (end : ℕ) (batch bytes : List ℕ) (s : Areas) :
    Type 0 where
  pub here : area ≡ half in_b
  pub selected : side s.select ≡ Some in_b
  pub found : ∥ EndsAt end (part (half in_b) s) ∥₁
  pub spelled : IsShut batch bytes
  pub fits : length batch ≤ GREATEST_SAVED

module _ {in_b : Bool} {area : Area} {end : ℕ} {batch bytes : List ℕ} {s : Areas}
    (adding : Adding in_b area end batch bytes s) where
  step_here : (step : List ℕ → List ℕ → Type 0) (d c : Areas) → Changes area step d c →
      Changes (half in_b) step d c
  step_here step d c ch = subst (λ a. Changes a step d c) adding.here ch

  ends_before : (image : List ℕ) (batches : List (List ℕ)) → Opens image batches s →
      Ends end image batches (part (half in_b) s)
  ends_before image batches opens = record {
    logged = selected_log in_b s adding.selected opens;
    offset = ∥∥₁_elim adding.found (hlevel props)
        (λ found. (same_end end image batches in_b s adding.selected found opens).offset);
  }

  -- the write may be torn
  pub first_torn : (image : List ℕ) (batches : List (List ℕ)) → Opens image batches s →
      (c : Areas) → Changes area (Torn (end + 1) (length bytes)) s c → Opens image batches c
  first_torn image batches opens c ch =
      let step = Torn (end + 1) (length bytes) in
      let after = here_changed in_b step s c adding.selected (step_here step s c ch) in
      record {
        in_b = in_b;
        selected = after.0;
        holds = (behind_torn (ends_before image batches opens) (length bytes)
            (part (half in_b) c) after.1).logged;
      }

  rest : List ℕ
  rest = drop (9 + length batch) bytes ++ drop (end + 1 + length bytes) (part (half in_b) s)

  module _ (t : Areas) (written : Changes area (Holds (end + 1) bytes) s t) where
    middle : (side t.select ≡ Some in_b)
        × Holds (end + 1) bytes (part (half in_b) s) (part (half in_b) t)
    middle = here_changed in_b (Holds (end + 1) bytes) s t adding.selected
        (step_here (Holds (end + 1) bytes) s t written)

    ends_between : (image : List ℕ) (batches : List (List ℕ)) → Opens image batches s →
        Ends end image batches (part (half in_b) t)
    ends_between image batches opens =
        laid_ends (ends_before image batches opens) bytes (part (half in_b) t) middle.1

    behind : (image : List ℕ) (batches : List (List ℕ)) → Opens image batches s →
        drop (end + 1) (part (half in_b) t) ≡ record_of batch ++ 0 ∷ rest
    unfolding rest
    behind image batches opens = batch_laid (ends_before image batches opens) batch bytes
        (part (half in_b) t) adding.spelled middle.1

    -- then the gate may be torn
    pub second_torn : (image : List ℕ) (batches : List (List ℕ)) → Opens image batches s →
        (c : Areas) → Changes area (Torn end 1) t c →
        OldOrNewLog image batches image (batches ++ batch ∷ []) c
    second_torn image batches opens c ch =
        let after = here_changed in_b (Torn end 1) t c middle.0 (step_here (Torn end 1) t c ch) in
        ⊎_elim
        (λ old. inl (record { in_b = in_b; selected = after.0; holds = old }))
        (λ new. inr (record { in_b = in_b; selected = after.0; holds = new }))
        (gate_torn (ends_between image batches opens) batch rest adding.fits
        (behind image batches opens) (part (half in_b) c) after.1)

    module _ (v : ℕ) (odd : (v % 2 == 1) ≡ true) where
      ends_after : (image : List ℕ) (batches : List (List ℕ)) → Opens image batches s →
          (c : Areas) → Changes area (Holds end (v ∷ [])) t c →
          Ends (end + 9 + length batch) image (batches ++ batch ∷ []) (part (half in_b) c)
      ends_after image batches opens c ch =
          let step = Holds end (v ∷ []) in
          let after = here_changed in_b step t c middle.0 (step_here step t c ch) in
          gate_written (ends_between image batches opens) batch rest adding.fits
          (behind image batches opens) v (part (half in_b) c) odd after.1

      still_selected : (c : Areas) → Changes area (Holds end (v ∷ [])) t c →
          side c.select ≡ Some in_b
      still_selected c ch =
          (here_changed in_b (Holds end (v ∷ [])) t c middle.0
          (step_here (Holds end (v ∷ [])) t c ch)).0

      -- and once it is written, the batch counts
      pub batch_added : (image : List ℕ) (batches : List (List ℕ)) → Opens image batches s →
          (c : Areas) → Changes area (Holds end (v ∷ [])) t c →
          Opens image (batches ++ batch ∷ []) c
      batch_added image batches opens c ch = record {
        in_b = in_b;
        selected = still_selected c ch;
        holds = (ends_after image batches opens c ch).logged;
      }

      pub end_moved : (c : Areas) → Changes area (Holds end (v ∷ [])) t c →
          (side c.select ≡ Some in_b) × ∥ EndsAt (end + 9 + length batch) (part (half in_b) c) ∥₁
      end_moved c ch = (
        still_selected c ch,
        ∥∥₁_map adding.found (λ found.
            let opens : Opens found.image found.batches s =
            record { in_b = in_b; selected = adding.selected; holds = found.logged } in
            let after = ends_after found.image found.batches opens c ch in
            record {
              image = found.image;
              batches = found.batches ++ batch ∷ [];
              logged = after.logged;
              offset = after.offset;
            }),
      )

-- three facts of what succeeded
pub all_ok : {T E : Type 0} (P Q R : Type 0) (r : Result T E) → OnOk r P → OnOk r (Q × R) →
    OnOk r (P × Q × R)
all_ok P Q R (Ok done) p both = (p, both.0, both.1)
all_ok P Q R (Err e) p both = tt

-- these batches were read, from the one offset to the other
pub record Read (at end : ℕ) (batches : List (List ℕ)) (held : List ℕ) : Type 0 where
  pub reached : end ≡ at + log_length batches
  pub ahead : (more : List (List ℕ)) → HasLog more (drop end held) →
      HasLog (batches ++ more) (drop at held)
  pub back : (all : List (List ℕ)) → HasLog all (drop at held) →
      (more : List (List ℕ)) × HasLog more (drop end held)

pub read_one : {at end next : ℕ} {batches : List (List ℕ)} {batch held : List ℕ} →
    Read at end batches held → side (drop end held) ≡ Some true →
    recorded (drop 1 (drop end held)) ≡ Some batch → next ≡ end + (9 + length batch) →
    Read at next (batches ++ batch ∷ []) held
read_one {at} {end} {next} {batches} {batch} {held} read odd is from = record {
  reached = omega (arith, from, read.reached, log_more batches batch);
  ahead = λ more log.
      let behind : HasLog more (drop (9 + length batch) (drop end held)) =
      subst (HasLog more) (ap (λ n. drop n held) from ∙ sym (drop-drop (9 + length batch) end held))
      log in
      subst (λ l. HasLog l (drop at held)) (sym (append_assoc batches (batch ∷ []) more))
      (read.ahead (batch ∷ more) (odd, is, behind));
  back = λ all log. let left = read.back all log in first_gone left.0 left.1;
}
  where
    first_gone : (left : List (List ℕ)) → HasLog left (drop end held) →
        (more : List (List ℕ)) × HasLog more (drop next held)
    first_gone [] log =
        let both : ◌≡◌ {A = Option Bool} (Some true) (Some false) = sym odd ∙ log in absurd cc
    first_gone (x ∷ more) log =
        let both : ◌≡◌ {A = Option (List ℕ)} (Some x) (Some batch) = sym log.1 ∙ is in
        let same : x ≡ batch = cc both in (
          more,
          subst (HasLog more)
              (ap (λ (l : List ℕ). drop (9 + length l) (drop end held)) same
              ∙ drop-drop (9 + length batch) end held ∙ ap (λ n. drop n held) (sym from)) log.2,
        )

pub read_all : {at end : ℕ} {batches : List (List ℕ)} {held : List ℕ} → Read at end batches held →
    side (drop end held) ≡ Some false → HasLog batches (drop at held)
read_all {at} {batches = batches} {held} read even =
    subst (λ l. HasLog l (drop at held)) (append-nil batches) (read.ahead [] even)
