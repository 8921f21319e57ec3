-- Why a log leads from a node to at most one other: the laws of nodes that a journal keeps.
use Rattle.std.proofs.Common.{◌≡◌, ℕ, Bool, true, false, List, [], ◌∷◌, ◌++◌, map, Option, Some, None, Result, Ok, refl, ap, sym, ◌∙◌, subst}
use Rattle.std.specs.Prelude.{slice_index_or, slice_set, nat_le}
use Rattle.std.specs.List.{AllByRecursion}
use Rattle.ids.specs.declared.refusal.Refusal.{Refusal}
use Rattle.ids.specs.declared.refusal.Refusal.TheVariants.{AckBeyond, WrongNode}
use Rattle.codec.specs.Formats.{Fits}
use Rattle.model.specs.declared.event.Event.{Event}
use Rattle.model.specs.declared.event.Event.TheVariants as event
use Rattle.model.specs.declared.event.Answer.{Answer}
use Rattle.model.specs.declared.event.Answer.TheVariants as answer
use Rattle.model.specs.Effects.{unchanged}
use Rattle.model.specs.Steps.{checked, is_addressed, lent, receipt, receipt_tests}
use Rattle.model.specs.View.{NodeView, link_to, no_link, trimmed, used, view_act, view_after, kept_view}
use Rattle.event_bytes.specs.Entries.{Entry, alloc, copy, dropped, load, store, clear, word, set_word}
use Rattle.event_bytes.specs.Entries.{set_bytes, patch, give, post, accept, put, get, fetch, resolve}
use Rattle.event_bytes.specs.Entries.{reclaim, begin, scan, pass}
use Rattle.event_bytes.specs.Entries.{sweep, next, received, acknowledged, entry}
use Rattle.event_bytes.specs.Events.{entry_of}
use Rattle.event_bytes.proofs.Sound.{entry_sound}
use Rattle.node_store.specs.Logs.{AreDone, IsDone, Leads, Logged, spelled}
use Rattle.node.specs.Keeping.{WholeNode, alone}
use Rattle.image_parts.specs.Grammar.{Stored, spelling, image_format, start_format, layout_format}
use Rattle.image_parts.specs.Layouts.{layout_for}
use Rattle.image_parts.specs.Logs.{begins_logged}
use Rattle.image_parts.specs.declared.layout.Layout.{Layout}
use Rattle.image_parts.specs.declared.layout.Layout.TheVariants as layout
use Rattle.image.specs.Images.{stored_by}
use Rattle.image.specs.Logged.{IsAnyWholeOf, IsEither}
use Rattle.image.proofs.Logged.{logged_begins, logged_of_one}
use Rattle.image.proofs.Spelled.{image_of_one}
use Rattle.node_store.specs.Values.{IsAlone, LeadsWhole, whole_image_by}

-- ---- an event is what it says

-- what an event does, by what it says
acts : NodeView → Entry → Result (NodeView × Answer) Refusal
acts n (alloc register places) = view_act n (event.Alloc register places)
acts n (copy register source) = view_act n (event.Copy register source)
acts n (dropped register) = view_act n (event.Drop register)
acts n (load register object place) = view_act n (event.Load register object place)
acts n (store object place register) = view_act n (event.Store object place register)
acts n (clear object place) = view_act n (event.Clear object place)
acts n (word object) = view_act n (event.Word object)
acts n (set_word object value) = view_act n (event.SetWord object value)
acts n (set_bytes object bytes) = view_act n (event.SetBytes object (lent bytes))
acts n (patch object offset bytes) = view_act n (event.Patch object offset (lent bytes))
acts n (give to label register) = view_act n (event.Give to label register)
acts n (post to label first count bytes) =
    view_act n (event.Post to label first count (lent bytes))
acts n (accept register) = view_act n (event.Accept register)
acts n (put object place register) = view_act n (event.Put object place register)
acts n (get object place label) = view_act n (event.Get object place label)
acts n (fetch object label offset count) = view_act n (event.Fetch object label offset count)
acts n (resolve register reference) = view_act n (event.Resolve register reference)
acts n (reclaim scope) = view_act n (event.Reclaim scope)
acts n begin = view_act n event.Begin
acts n scan = view_act n event.Scan
acts n pass = view_act n event.Pass
acts n (sweep count) = view_act n (event.Sweep count)
acts n (next from) = view_act n (event.Next from)
acts n (received from to number stamp body) =
    view_after n n.links
    (checked (receipt_tests n.local from to number stamp body ++ []) (map used n.links)
    (receipt n.local from number stamp body))
acts n (acknowledged by of number) =
    view_after n
    (slice_set n.links by (trimmed (slice_index_or n.links by no_link) number))
    (checked ((is_addressed n.local by of, WrongNode)
    ∷ (nat_le number (link_to n by).kept, AckBeyond) ∷ [])
    (map used n.links) (unchanged n.local answer.Done))

acts-is : (n : NodeView) (e : Event) → acts n (entry_of e) ≡ view_act n e
unfolding view_act acts
acts-is n (event.Data d) = refl
acts-is n (event.Ack a) = refl
acts-is n e = refl

-- events that say the same lead to the same
pub one-done : (n m k : NodeView) (e f : Event) → entry_of e ≡ entry_of f → IsDone n e m
    → IsDone n f k
    → m ≡ k
one-done n m k e f same a b =
    let both : ◌≡◌ {A = Result (NodeView × Answer) Refusal} (Ok (m, a.answer)) (Ok (k, b.answer)) =
    sym a.acts ∙ sym (acts-is n e) ∙ ap (acts n) same ∙ acts-is n f ∙ b.acts in
    let parts : ◌≡◌ {A = NodeView × Answer} (m, a.answer) (k, b.answer) = cc both in
    ap (λ (x : NodeView × Answer). x.0) parts

pub again-done : (n m : NodeView) (e f : Event) → entry_of e ≡ entry_of f → IsDone n e m
    → IsDone n f m
again-done n m e f same is = record {
  answer = is.answer;
  acts = sym (acts-is n f) ∙ ap (acts n) (sym same) ∙ acts-is n e ∙ is.acts;
  now = is.now;
}

-- ---- where a log leads

-- no event is spelled by nothing
pub spelled-nothing : (e : Event) (rest : List ℕ) → [] ≡ entry.spell (entry_of e) ++ rest
    → Fits entry (entry_of e) → ⊥
unfolding entry
spelled-nothing e rest is fits =
    let some : ◌≡◌ {A = Option (Entry × List ℕ)} None (Some (entry_of e, rest)) =
    ap entry.read is ∙ entry_sound.again (entry_of e) rest fits in
    absurd cc

-- the bytes lead to one node
pub logged_one : (bytes : List ℕ) (n m k : NodeView) → Logged bytes n m → Logged bytes n k → m ≡ k
logged_one bytes n m k a b =
    by_events a.events b.events n a.fit b.fit (sym a.is ∙ b.is) a.done b.done
  where
    by_events : (es fs : List Event) (now : NodeView)
        → AllByRecursion (λ e. Fits entry (entry_of e)) es
        → AllByRecursion (λ e. Fits entry (entry_of e)) fs → spelled es ≡ spelled fs
        → AreDone now es m → AreDone now fs k → m ≡ k
    by_events [] [] now fit other is done also = sym done ∙ also
    by_events [] (f ∷ fs) now fit other is done also =
        absurd (spelled-nothing f (spelled fs) is other.0)
    by_events (e ∷ es) [] now fit other is done also =
        absurd (spelled-nothing e (spelled es) (sym is) fit.0)
    by_events (e ∷ es) (f ∷ fs) now fit other is done also =
        let both : ◌≡◌ {A = Option (Entry × List ℕ)}
        (Some (entry_of e, spelled es)) (Some (entry_of f, spelled fs)) =
        sym (entry_sound.again (entry_of e) (spelled es) fit.0) ∙ ap entry.read is
        ∙ entry_sound.again (entry_of f) (spelled fs) other.0 in
        let parts : ◌≡◌ {A = Entry × List ℕ} (entry_of e, spelled es) (entry_of f, spelled fs) =
        cc both in
        let one = one-done now done.0 also.0 e f (ap (λ (x : Entry × List ℕ). x.0) parts)
        done.1 also.1 in
        by_events es fs also.0 fit.1 other.1 (ap (λ (x : Entry × List ℕ). x.1) parts)
        (subst (λ x. AreDone x es m) one done.2) also.2

pub leads_one : (batch : List ℕ) (n m k : NodeView) → Leads batch n m → Leads batch n k → m ≡ k
leads_one batch n m k a b =
    a.kept ∙ ap kept_view (logged_one batch n a.before b.before a.logged b.logged) ∙ sym b.kept

-- ---- nodes that a journal keeps

pub read_alone : (bytes : List ℕ) (n : WholeNode) → IsAnyWholeOf bytes n → IsAlone n
read_alone bytes n is = is.1

pub led_alone : (batch : List ℕ) (n m : WholeNode) → LeadsWhole batch n m → IsAlone m
led_alone batch n m led = led.1

-- no log follows what is spelled in one of these layouts
pub plain_spelling : (l : Layout) (s : Stored) → begins_logged (spelling l s) ≡ false
unfolding spelling image_format start_format layout_format
plain_spelling layout.First s = refl
plain_spelling layout.Second s = refl
plain_spelling (layout.Wide places bytes) s = refl

pub followed : (logged : Bool) (n : WholeNode) → begins_logged (whole_image_by logged n) ≡ logged
followed true n = logged_begins n.core
followed false n = plain_spelling (layout_for n.core.local.shape) (stored_by n.core)

either_one : (logged : Bool) (bytes : List ℕ) (m n : NodeView) → IsEither logged bytes m
    → IsEither logged bytes n → m ≡ n
either_one true bytes m n a b = logged_of_one bytes m n a b
either_one false bytes m n a b = image_of_one bytes m n a b

pub one_whole : (bytes : List ℕ) (m n : WholeNode) → IsAnyWholeOf bytes m → IsAnyWholeOf bytes n
    → m ≡ n
one_whole bytes m n a b =
    a.1 ∙ ap alone (either_one (begins_logged bytes) bytes m.core n.core a.0 b.0) ∙ sym b.1

pub one_led : (batch : List ℕ) (first m n : WholeNode) → LeadsWhole batch first m
    → LeadsWhole batch first n → m ≡ n
one_led batch first m n a b =
    a.1 ∙ ap alone (leads_one batch first.core m.core n.core a.0 b.0) ∙ sym b.1
