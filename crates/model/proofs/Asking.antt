-- What a node asks for, sends and receives keeps what is true of every node.
use Rattle.std.proofs.Common.{◌≡◌, ◌≢◌, ℕ, ◌+◌, ◌-◌, ◌≤◌, ◌==◌, ◌||◌, false, eqb, List, [], ◌∷◌, ◌++◌, map, get_or, set, replicate, refl, sym, ap, ◌∙◌, subst, ⊎_elim, arith, append-nil, append_assoc, get_or-set_other}
use Rattle.std.specs.List.{AllByRecursion, IsDistinct}
use Rattle.std.proofs.lemmas.Bool.{cases_Bool, cond_both, eq-eqb, eqb-true, eqb-false, ne_eqb, or_parts}
use Rattle.std.proofs.lemmas.List.{get_or-drop}
use Rattle.std.proofs.Math.ListN.{get_or-map}
use Rattle.ids.specs.Limits.{Shaped}
use Rattle.ids.specs.declared.names.Ref.{Ref}
use Rattle.msg.specs.declared.body.Message.{Message}
use Rattle.model.specs.Shading.{is_same, is_in, unasked, marks_for}
use Rattle.model.specs.View.{Link, no_link, appended, append_to, trimmed, all_kept}
use Rattle.model.specs.References.{IsWithin, no_message}
use Rattle.model.specs.WellFormed.{AreAsked, AreReports, AreTimely}
use Rattle.model.proofs.Lookups.{at_set, at_push, get_or-replicate_any}
use Rattle.model.proofs.Appending.{links-appended}
use Rattle.model.proofs.References.{all-append}
use Rattle.model.proofs.Stocks.{distinct-push}

-- ---- what was asked for

pub asked-none : (shape : Shaped) (own : ℕ) → AreAsked shape own []
unfolding IsDistinct
asked-none shape own = record { within = tt; others = tt; once = tt }

eqb-flip : (a b : ℕ) → eqb a b ≡ eqb b a
eqb-flip a b =
    ⊎_elim {C = eqb a b ≡ eqb b a}
    (λ same. same ∙ sym (eq-eqb b a (sym (eqb-true a b same))))
    (λ other. other ∙ sym (ne_eqb b a (λ e. eqb-false a b other (sym e))))
    (cases_Bool (eqb a b))

pub same-flip : (r s : Ref) → is_same r s ≡ is_same s r
same-flip r s =
    rw (eqb-flip r.node s.node, eqb-flip r.slot s.slot, eqb-flip r.generation s.generation) refl

-- a reference that isn't in the list differs from each one in it
not-there : (r : Ref) (rs : List Ref) → is_in r rs ≡ false
    → AllByRecursion (λ (s : Ref). is_same s r ≡ false) rs
not-there r [] none = tt
not-there r (s ∷ rs) none =
    let parts = or_parts (is_same r s) (is_in r rs) none in
    (same-flip s r ∙ parts.0, not-there r rs parts.1)

module _ (shape : Shaped) (own : ℕ) where
  asked-one : (asked : List Ref) (r : Ref) → AreAsked shape own asked → IsWithin shape r
      → (r.node == own || is_in r asked) ≡ false → AreAsked shape own (asked ++ r ∷ [])
  asked-one asked r old within new =
      let parts = or_parts (r.node == own) (is_in r asked) new in
      record {
        within = all-append (IsWithin shape) asked (r ∷ []) old.within (within, tt);
        others = all-append (λ (s : Ref). s.node ≢ own) asked (r ∷ []) old.others
            (eqb-false r.node own parts.0, tt);
        once = distinct-push is_same asked r old.once (not-there r asked parts.1);
      }

  -- more was asked for
  pub asked-more : (asked rs : List Ref) → AreAsked shape own asked
      → AllByRecursion (IsWithin shape) rs → AreAsked shape own (asked ++ unasked own asked rs)
  asked-more asked [] old all = subst (AreAsked shape own) (sym (append-nil asked)) old
  asked-more asked (r ∷ rs) old all =
      cond_both (r.node == own || is_in r asked)
      (unasked own asked rs)
      (r ∷ unasked own (asked ++ r ∷ []) rs)
      (λ (us : List Ref). AreAsked shape own (asked ++ us))
      (λ _. asked-more asked rs old all.1)
      (λ new.
      subst (AreAsked shape own) (append_assoc asked (r ∷ []) (unasked own (asked ++ r ∷ []) rs))
      (asked-more (asked ++ r ∷ []) rs (asked-one asked r old all.0 new) all.1))

-- only other nodes' objects are asked for
pub unasked-others : (own : ℕ) (asked rs : List Ref)
    → AllByRecursion (λ (r : Ref). r.node ≢ own) (unasked own asked rs)
unasked-others own asked [] = tt
unasked-others own asked (r ∷ rs) =
    cond_both (r.node == own || is_in r asked)
    (unasked own asked rs)
    (r ∷ unasked own (asked ++ r ∷ []) rs)
    (AllByRecursion (λ (s : Ref). s.node ≢ own))
    (λ _. unasked-others own asked rs)
    (λ new. (
      eqb-false r.node own (or_parts (r.node == own) (is_in r asked) new).0,
      unasked-others own (asked ++ r ∷ []) rs,
    ))

-- so Marks go to other nodes, and their stamp is the cycle
pub marks-others : (own cycle : ℕ) (rs : List Ref)
    → AllByRecursion (λ (r : Ref). r.node ≢ own) rs
    → AllByRecursion (λ (m : ℕ × Message). m.0 ≢ own) (marks_for cycle rs)
marks-others own cycle [] all = tt
marks-others own cycle (r ∷ rs) all = (all.0, marks-others own cycle rs all.1)

pub marks-timely : (cycle : ℕ) (rs : List Ref)
    → AllByRecursion (λ (m : ℕ × Message). m.1.stamp ≤ cycle) (marks_for cycle rs)
marks-timely cycle [] = tt
marks-timely cycle (r ∷ rs) = (omega arith, marks-timely cycle rs)

-- ---- links

pub timely-new : (own nodes : ℕ) → AreTimely own 0 (replicate nodes no_link) (replicate nodes 0)
timely-new own nodes = record {
  unused = get_or-replicate_any nodes own no_link;
  unheard = get_or-replicate_any nodes own 0;
  stamps = λ i k.
      subst (λ (l : Link). (get_or l.unacknowledged k no_message).stamp ≤ 0)
      (sym (get_or-replicate_any nodes i no_link)) (omega arith);
}

-- messages to other nodes don't change the link to this one
append_to-other : (links : List Link) (ms : List (ℕ × Message)) (i : ℕ)
    → AllByRecursion (λ (m : ℕ × Message). m.0 ≢ i) ms
    → get_or (append_to links ms) i no_link ≡ get_or links i no_link
append_to-other links [] i others = refl
append_to-other links (m ∷ ms) i others =
    append_to-other (set links m.0 (appended (get_or links m.0 no_link) m.1)) ms i others.1
    ∙ get_or-set_other links m.0 i (appended (get_or links m.0 no_link) m.1) no_link
    (λ e. others.0 (sym e))

module _ {own cycle : ℕ} {links : List Link} {got : List ℕ} (old : AreTimely own cycle links got)
  where
    pub timely-appended : (ms : List (ℕ × Message))
        → AllByRecursion (λ (m : ℕ × Message). m.0 ≢ own) ms
        → AllByRecursion (λ (m : ℕ × Message). m.1.stamp ≤ cycle) ms
        → AreTimely own cycle (append_to links ms) got
    timely-appended ms others stamps = record {
      unused = append_to-other links ms own others ∙ old.unused;
      unheard = old.unheard;
      stamps =
          links-appended
          (λ l. (k : ℕ) → (get_or l.unacknowledged k no_message).stamp ≤ cycle)
          (λ m. m.1.stamp ≤ cycle) links ms
          (λ l m may before k.
          at_push (λ (x : Message). x.stamp ≤ cycle) l.unacknowledged k m.1 no_message may
          (omega arith) (before k))
          stamps old.stamps;
    }

    pub timely-taken : (from number : ℕ) → from ≢ own
        → AreTimely own cycle links (set got from number)
    timely-taken from number other = record {
      unused = old.unused;
      unheard = get_or-set_other got from own number 0 (λ e. other (sym e)) ∙ old.unheard;
      stamps = old.stamps;
    }

    pub timely-trimmed : (from number : ℕ) → from ≢ own
        → AreTimely own cycle (set links from (trimmed (get_or links from no_link) number)) got
    timely-trimmed from number other =
        let l : Link = get_or links from no_link in
        record {
          unused = get_or-set_other links from own (trimmed l number) no_link (λ e. other (sym e))
              ∙ old.unused;
          unheard = old.unheard;
          stamps = λ i k.
              at_set (λ (z : Link). (get_or z.unacknowledged k no_message).stamp ≤ cycle) links
              from i (trimmed l number) no_link
              (subst (λ (x : Message). x.stamp ≤ cycle)
              (sym (get_or-drop (number - l.base) l.unacknowledged k no_message))
              (old.stamps from (number - l.base + k)))
              (old.stamps i k);
        }

    -- the messages of one link are as before
    pub timely-same : (peer : ℕ) (l : Link) → peer ≢ own
        → l.unacknowledged ≡ (get_or links peer no_link).unacknowledged
        → AreTimely own cycle (set links peer l) got
    timely-same peer l other same = record {
      unused = get_or-set_other links peer own l no_link (λ e. other (sym e)) ∙ old.unused;
      unheard = old.unheard;
      stamps = λ i k.
          at_set (λ (z : Link). (get_or z.unacknowledged k no_message).stamp ≤ cycle) links
          peer i l no_link
          (subst (λ (xs : List Message). (get_or xs k no_message).stamp ≤ cycle) (sym same)
          (old.stamps peer k))
          (old.stamps i k);
    }

    pub timely-kept : AreTimely own cycle (map all_kept links) got
    timely-kept = record {
      unused = get_or-map all_kept links own no_link ∙ ap all_kept old.unused;
      unheard = old.unheard;
      stamps = λ i k.
          subst (λ (z : Link). (get_or z.unacknowledged k no_message).stamp ≤ cycle)
          (sym (get_or-map all_kept links i no_link)) (old.stamps i k);
    }

    pub timely-later : (later : ℕ) → cycle ≤ later → AreTimely own later links got
    timely-later later more = record {
      unused = old.unused;
      unheard = old.unheard;
      stamps = λ i k. let before = old.stamps i k in omega (arith, before, more);
    }

-- ---- reports

pub reports-new : (own nodes : ℕ) → AreReports own (replicate nodes 0)
reports-new own nodes = record {
  first = get_or-replicate_any nodes 0 0;
  others = λ _ i. get_or-replicate_any nodes i 0;
}
