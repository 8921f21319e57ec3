-- Batches that are stored one after another.
use Rattle.std.proofs.Common.{◌≡◌, inl, inr, ℕ, ◌+◌, ◌%◌, ◌^◌, ◌≤◌, Bool, true, false, cond, List, [], ◌∷◌, ◌++◌, length, take, drop, Option, Some, None, refl, ap, sym, ◌∙◌, subst, arith}
use Rattle.std.proofs.Common.{length-append, length-drop}
use Rattle.std.specs.Global.{Vec}
use Rattle.std.specs.Int.{w64, from_be_bytes}
use Rattle.std.specs.Prelude.{nat_le}
use Rattle.std.proofs.lemmas.Bool.{cond_both, leb-true, true≢false}
use Rattle.std.proofs.lemmas.Bool.Decides.{leb_tells}
use Rattle.std.proofs.lemmas.List.{append-nil, drop_all, drop-append-le, take-append-le, length-take-le}
use Rattle.disk_shelf.specs.declared.persist.TheConstants.{GREATEST_SAVED}
use Rattle.disk_shelf.specs.Logs.{LeadAll}
use Rattle.disk_shelf.specs.Shelf.{record_of, recorded, told}
use Rattle.disk_shelf.proofs.Records.{recorded_cut, recorded_front, recorded_is, recorded_short, recorded_tells, record_length}
use Rattle.disk_shelf.proofs.Values.{lead_more}
use Rattle.image_parts.specs.Logs.{begins_logged}
use Rattle.model.specs.View.{kept_view}
use Rattle.node.specs.Invariant.{IsNode}
use Rattle.node.specs.Keeping.{WholeNode}
use Rattle.image.specs.Wholes.{saved_whole}
use Rattle.node_store.specs.Laws.{one_led, one_whole}
use Rattle.node_store.specs.Values.{LeadsWhole}
use Rattle.node_log.specs.declared.log.TheConstants.{GREATEST_LOG}
use Rattle.c_handles.specs.Batches.{AreBatches, GaveBatch, IsStored, LogLeads, batch_of, short}
use Rattle.c_handles.specs.Images.{counts_of, marked}
use Rattle.c_handles.specs.declared.lone.images.Counts.{Counts}
use Rattle.c_handles.proofs.Logs.{begun_led, within_sent}
use Rattle.c_handles.specs.Logs.{LedIf, LogsFrom, log_of}
use Rattle.c_handles.specs.declared.lone.LoneNode.{LoneNode}

some_one : {x y : List ℕ} → ◌≡◌ {A = Option (List ℕ)} (Some x) (Some y) → x ≡ y
some_one both = cc both

some_none : {x : List ℕ} {o : Option (List ℕ)} → o ≡ Some x → o ≡ None → ⊥
some_none some none = absurd cc

none_recorded : (batch : List ℕ) → recorded [] ≡ Some batch → ⊥
none_recorded batch is = some_none is (recorded_short [] (omega arith))

pub nil_of : (l : List ℕ) → length l ≡ 0 → l ≡ []
nil_of [] is = refl
nil_of (x ∷ l) is = absurd (omega (arith, is))

-- ---- one more batch

-- a batch is inside the bytes
recorded_within : (bytes batch : List ℕ) → recorded bytes ≡ Some batch
    → (told bytes ≡ length batch) × (8 + length batch ≤ length bytes)
recorded_within bytes batch is =
    let tells = recorded_tells bytes batch is in
    let enough : told bytes + 8 ≤ length bytes =
    elim (leb_tells (told bytes + 8) (length bytes)) [
      | inl fits ↦ fits.1
      | inr cut ↦ absurd (some_none is (recorded_cut bytes cut.1))
    ] in
    let same : batch ≡ take (told bytes) (drop 8 bytes) =
    some_one (sym is ∙ recorded_is bytes (told bytes) refl tells.1.most enough) in
    let long : length (take (told bytes) (drop 8 bytes)) ≡ told bytes =
    length-take-le (told bytes) (drop 8 bytes) (omega (arith, enough, length-drop 8 bytes)) in
    let count : told bytes ≡ length batch = sym long ∙ sym (ap length same) in
    (count, omega (arith, count, enough))

-- whatever follows it
recorded_more : (bytes batch more : List ℕ) → recorded bytes ≡ Some batch
    → recorded (bytes ++ more) ≡ Some batch
unfolding told
recorded_more bytes batch more is =
    let tells = recorded_tells bytes batch is in
    let within = recorded_within bytes batch is in
    let says : told (bytes ++ more) ≡ told bytes =
    ap (from_be_bytes w64) (take-append-le 8 bytes more tells.0) in
    let rest : take (told bytes) (drop 8 (bytes ++ more)) ≡ take (told bytes) (drop 8 bytes) =
    ap (take (told bytes)) (drop-append-le 8 bytes more tells.0)
    ∙ take-append-le (told bytes) (drop 8 bytes) more
    (omega (arith, within.0, within.1, length-drop 8 bytes)) in
    recorded_is (bytes ++ more) (told bytes) says tells.1.most
    (omega (arith, within.0, within.1, length-append bytes more))
    ∙ ap Some rest
    ∙ sym (recorded_is bytes (told bytes) refl tells.1.most (omega (arith, within.0, within.1)))
    ∙ is

one_batch : (batch : List ℕ) → length batch ≤ GREATEST_SAVED
    → AreBatches (batch ∷ []) (record_of batch)
one_batch batch short = (
  ap recorded (sym (append-nil (record_of batch))) ∙ recorded_front batch [] short,
  drop_all (8 + length batch) (record_of batch) (omega (arith, record_length batch)),
)

batches_more : (batches : List (List ℕ)) (batch bytes : List ℕ) → length batch ≤ GREATEST_SAVED
    → AreBatches batches bytes → AreBatches (batches ++ batch ∷ []) (bytes ++ record_of batch)
batches_more [] batch bytes short are =
    subst (λ (l : List ℕ). AreBatches (batch ∷ []) (l ++ record_of batch)) (sym are)
    (one_batch batch short)
batches_more (first ∷ rest) batch bytes short are = (
  recorded_more bytes first (record_of batch) are.0,
  subst (AreBatches (rest ++ batch ∷ []))
      (sym (drop-append-le (8 + length first) bytes (record_of batch)
      (recorded_within bytes first are.0).1))
      (batches_more rest batch (drop (8 + length first) bytes) short are.1),
)

module _ (n : LoneNode) (bytes : List ℕ) where
  -- the events of the next batch are the log
  batch_log : (kept : Bool) (log : Option (List ℕ)) → cond kept (short log) None ≡ Some bytes
      → (log ≡ Some bytes) × (length bytes ≤ GREATEST_LOG)
  batch_log false log is = absurd cc
  batch_log true None is = absurd cc
  batch_log true (Some found) is =
      cond_both (nat_le (length found) GREATEST_LOG) (Some found) None
      (λ o. o ≡ Some bytes → (Some found ≡ Some bytes) × (length bytes ≤ GREATEST_LOG))
      (λ fits same. (
        same,
        subst (λ (l : List ℕ). length l ≤ GREATEST_LOG) (some_one same) (leb-true _ _ fits),
      ))
      (λ long none. absurd cc) is

-- what was stored, with a batch behind it
pub stored_more : (n : LoneNode) {bytes image batches : List ℕ} {first : WholeNode}
    → batch_of n ≡ Some bytes → begins_logged image ≡ true → IsStored image batches first
    → LogsFrom first.core n → IsStored image (batches ++ record_of bytes) (saved_whole n.node)
stored_more n {bytes} {image} {batches} {first} is logged stored logs =
    let found = batch_log n bytes n.is_kept (log_of n) is in
    let led = logs bytes found.0 in
    let leads : LeadsWhole bytes first (saved_whole n.node) = (
      record { before = led.last; logged = led.logged; kept = led.behind.same },
      refl,
    ) in
    record {
      first = stored.first;
      read = stored.read;
      plain = λ plain. absurd (true≢false (sym logged ∙ plain));
      led = (
        stored.led.0 ++ bytes ∷ [],
        batches_more stored.led.0 bytes batches (omega (arith, found.1)) stored.led.1,
        lead_more LeadsWhole stored.led.0 bytes stored.first first (saved_whole n.node)
            stored.led.2 leads,
      );
    }

-- ---- they lead to one node

pub led_once : (bytes : List ℕ) (first m n : WholeNode) → LogLeads bytes first m
    → LogLeads bytes first n → m ≡ n
led_once bytes first m n a b = by_batches a.0 b.0 bytes first a.1 b.1 a.2 b.2
  where
    by_batches : (bs cs : List (List ℕ)) (rest : List ℕ) (now : WholeNode) → AreBatches bs rest
        → AreBatches cs rest → LeadAll LeadsWhole bs now m → LeadAll LeadsWhole cs now n → m ≡ n
    by_batches [] [] rest now are also led other = sym led ∙ other
    by_batches [] (c ∷ cs) rest now are also led other =
        absurd (none_recorded c (ap recorded (sym are) ∙ also.0))
    by_batches (b ∷ bs) [] rest now are also led other =
        absurd (none_recorded b (ap recorded (sym also) ∙ are.0))
    by_batches (b ∷ bs) (c ∷ cs) rest now are also led other =
        let same : c ≡ b = some_one (sym also.0 ∙ are.0) in
        let one : other.0 ≡ led.0 =
        one_led b now other.0 led.0 (subst (λ l. LeadsWhole l now other.0) same other.1) led.1 in
        by_batches bs cs (drop (8 + length b) rest) led.0 are.1
        (subst (λ (l : List ℕ). AreBatches cs (drop (8 + length l) rest)) same also.1) led.2
        (subst (λ w. LeadAll LeadsWhole cs w n) one other.2)

pub stored_one : (image batches : List ℕ) (m n : WholeNode) → IsStored image batches m
    → IsStored image batches n → m ≡ n
stored_one image batches m n a b =
    let same = one_whole image b.first a.first b.read a.read in
    led_once batches a.first m n a.led (subst (λ w. LogLeads batches w n) same b.led)

-- ---- batches that are performed

-- These bytes are left of the batches. They lead from this node to the same ends as all of them
-- from the first node.
pub record IsLeft (batches : List ℕ) (first : WholeNode) (rest : List ℕ) (now : WholeNode) : Type 0
  where
    pub ahead : (last : WholeNode) → LogLeads batches first last → LogLeads rest now last
    pub back : (last : WholeNode) → LogLeads rest now last → LogLeads batches first last

-- there is no batch
pub left_bad : {batches rest : List ℕ} {first now : WholeNode} → IsLeft batches first rest now
    → 1 ≤ length rest → recorded rest ≡ None → (last : WholeNode) → LogLeads batches first last → ⊥
left_bad {rest = rest} left some none last led = by_batches (left.ahead last led)
  where
    by_batches : {now : WholeNode} → LogLeads rest now last → ⊥
    by_batches ([], are, more) = omega (arith, some, ap length are)
    by_batches (b ∷ bs, are, more) = some_none are.0 none

module _ {batches rest batch : List ℕ} {first now : WholeNode}
    (left : IsLeft batches first rest now)
    (is : recorded rest ≡ Some batch) where
  -- the first batch that is left leads on
  first_of : (last : WholeNode) → LogLeads rest now last
      → (next : WholeNode) × LeadsWhole batch now next
      × LogLeads (drop (8 + length batch) rest) next last
  first_of last ([], are, more) = absurd (none_recorded batch (ap recorded (sym are) ∙ is))
  first_of last (b ∷ bs, are, more) =
      let same : b ≡ batch = some_one (sym are.0 ∙ is) in (
        more.0,
        subst (λ l. LeadsWhole l now more.0) same more.1,
        (
          bs,
          subst (λ (l : List ℕ). AreBatches bs (drop (8 + length l) rest)) same are.1,
          more.2,
        ),
      )

  -- it leads nowhere
  pub left_nowhere : ((next : WholeNode) → LeadsWhole batch now next → ⊥) → (last : WholeNode)
      → LogLeads batches first last → ⊥
  left_nowhere none last led =
      let found = first_of last (left.ahead last led) in none found.0 found.1

  -- it was performed
  pub left_next : (next : WholeNode) → LeadsWhole batch now next
      → IsLeft batches first (drop (8 + length batch) rest) next
  left_next next leads = record {
    ahead = λ last led.
        let found = first_of last (left.ahead last led) in
        subst (λ w. LogLeads (drop (8 + length batch) rest) w last)
        (one_led batch now found.0 next found.1 leads) found.2;
    back = λ last led. left.back last (batch ∷ led.0, (is, led.1), (next, leads, led.2));
  }

-- ---- a batch that is given

-- what is kept for its mark
pub gave_batch : {old new : LoneNode} {mark : ℕ} {bytes : List ℕ} (counts : Vec Counts)
    → batch_of old ≡ Some bytes → counts.items ≡ counts_of old.node.core → IsNode old.node.core
    → mark ≡ (old.mark + 1) % 2 ^ 64 → new ≡ marked old counts mark (Some [])
    → GaveBatch old new mark bytes
gave_batch {old = old} counts is counted node next stays = record {
  counts = counts;
  counted = counted;
  stays = stays;
  next = next;
  stored = λ image batches first. stored_more old is;
  logs = subst (LogsFrom (kept_view old.node.core)) (sym stays) (begin_at old.logs);
}
  where
    begin_at : (logs : Bool)
        → LedIf (cond logs (Some []) None) (kept_view old.node.core) old.node.core (Some counts)
    begin_at true = begun_led old.node.core counts counted (within_sent old.node.core node)
    begin_at false = λ found none. absurd cc
