-- A new node: nothing was sent, so it shows a new state, and everything counts as saved.
use Rattle.std.proofs.Common.{◌≡◌, ℕ, zero, suc, List, [], ◌∷◌, length, map, get_or, replicate, refl, ap, sym, ◌∙◌, subst, arith}
use Rattle.std.proofs.lemmas.List.{length-replicate}
use Rattle.ids.specs.Limits.{Shaped}
use Rattle.msg.specs.declared.body.Message.{Message}
use Rattle.model.specs.State.{new_node, sent_to}
use Rattle.model.specs.View.{Link, Shows, ShowsSent, all_kept, kept_view, link_to, no_link, new_view}
use Rattle.model.proofs.Lookups.{get_or-replicate_any}

pub new-link : (shape : Shaped) (own j : ℕ) → link_to (new_view shape own) j ≡ no_link
new-link shape own j = get_or-replicate_any shape.nodes j no_link

pub nothing-sent : (shape : Shaped) (own j : ℕ) → sent_to (new_node shape own) j ≡ []
nothing-sent shape own j = get_or-replicate_any {A = List Message} shape.nodes j []

pub new-shown : (shape : Shaped) (own : ℕ) → Shows (new_view shape own) (new_node shape own)
new-shown shape own = record {
  local = refl;
  width = length-replicate shape.nodes no_link
      ∙ sym (length-replicate {A = List Message} shape.nodes []);
  links = λ j.
      subst (λ (l : Link). ShowsSent l (get_or (replicate shape.nodes []) j []))
      (sym (new-link shape own j))
      (subst (ShowsSent no_link) (sym (nothing-sent shape own j))
      (record { within = omega arith; unacknowledged = refl }));
}

-- a saved node holds everything that was sent
pub new-counted : (shape : Shaped) (own j : ℕ)
    → (link_to (new_view shape own) j).kept ≡ length (sent_to (new_node shape own) j)
new-counted shape own j = ap (λ (l : Link). l.kept) (new-link shape own j)
    ∙ sym (ap length (nothing-sent shape own j))

no-links-kept : (n : ℕ) → map all_kept (replicate n no_link) ≡ replicate n no_link
no-links-kept zero = refl
no-links-kept (suc n) = ap (λ ls. no_link ∷ ls) (no-links-kept n)

pub new-kept : (shape : Shaped) (own : ℕ) → kept_view (new_view shape own) ≡ new_view shape own
new-kept shape own =
    ap (λ (ls : List Link). record (new_view shape own) { links = ls }) (no-links-kept shape.nodes)
