-- Messages that are sent one after the other: whether all of them get numbers.
use Rattle.std.proofs.Common.{◌≡◌, ℕ, ◌-◌, true, false, List, [], ◌∷◌, ◌++◌, length, map, ap, ◌∙◌, subst, refl}
use Rattle.msg.specs.declared.body.Body.TheVariants as body
use Rattle.msg.specs.declared.body.Message.{Message}
use Rattle.model.specs.Collecting.{new_token}
use Rattle.model.specs.Steps.{fits}
use Rattle.model.specs.View.{used}
use Rattle.model.proofs.Appending.{fits-append}
use Rattle.link.specs.Links.{LinksView, appended_to, fits_others, fits_to, for_others}
use Rattle.link.proofs.EveryLink.{retracted_to-appended_to}
use Rattle.remote_marks.specs.Asked.{AreSent, all_appended}
use Rattle.remote_marks.proofs.Sent.{fits-then, sent-then, sent-width}
use Rattle.node.specs.Cycles.{begins}

-- if the first ones don't all get numbers, neither do all
pub spent-before : (was : LinksView) (ms ns : List (ℕ × Message))
    → fits (map used was.links) ms ≡ false → fits (map used was.links) (ms ++ ns) ≡ false
spent-before was ms ns first = fits-append was.links ms ns ∙ rw first refl

-- the first ones are sent, and the others not
pub spent-after : {was mid : LinksView} (ms ns : List (ℕ × Message)) → AreSent ms was mid
    → fits (map used mid.links) ns ≡ false → fits (map used was.links) (ms ++ ns) ≡ false
spent-after {was = was} {mid = mid} ms ns first second = fits-then was mid ms ns first ∙ second

-- ---- a cycle begins: the token goes to the last node, and Begin to all others

module _ (v : LinksView) (own cycle : ℕ) {last : ℕ} (last-is : last ≡ length v.links - 1) where
  abbrev told : Message
  told = record { stamp = cycle; body = body.Begin }

  abbrev token : Message
  token = record { stamp = cycle; body = body.Token new_token }

  abbrev others : List (ℕ × Message)
  others = for_others own told (length v.links)

  token-sent : {l : LinksView} → l ≡ appended_to v last token → fits_to v last token ≡ true
      → AreSent ((length v.links - 1, token) ∷ []) v l
  token-sent done fit = record {
    fits = subst (λ (k : ℕ). fits (map used v.links) ((k, token) ∷ []) ≡ true) last-is fit;
    sent = done ∙ ap (λ (k : ℕ). all_appended v ((k, token) ∷ [])) last-is;
  }

  pub begins-sent : {l m : LinksView} → l ≡ appended_to v last token → fits_to v last token ≡ true
      → m ≡ all_appended l (for_others own told (length l.links))
      → fits_others l own told ≡ true → AreSent (begins own (length v.links) cycle new_token) v m
  begins-sent {l = l} {m = m} done fit told-all all =
      let first = token-sent done fit in
      sent-then first
      (subst (λ (k : ℕ). AreSent (for_others own told k) l m) (sent-width first)
      (record { fits = all; sent = told-all }))

  pub begins-spent : {l : LinksView} → l ≡ appended_to v last token → fits_to v last token ≡ true
      → fits_others l own told ≡ false
      → fits (map used v.links) (begins own (length v.links) cycle new_token) ≡ false
  begins-spent {l = l} done fit none =
      let first = token-sent done fit in
      spent-after ((length v.links - 1, token) ∷ []) others first
      (subst (λ (k : ℕ). fits (map used l.links) (for_others own told k) ≡ false)
      (sent-width first) none)

pub ruleset sending = (
  spent-before,
  spent-after,
  sent-then,
  begins-sent,
  begins-spent,
  retracted_to-appended_to,
)
