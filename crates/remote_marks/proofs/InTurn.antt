-- Asking for references all together equals asking for them one after another.
use Rattle.std.proofs.Common.{◌≡◌, ℕ, suc, ◌+◌, ◌<◌, ◌≤◌, List, [], ◌∷◌, ◌++◌, length, take, get_or, Option, None, ap, sym, ◌∙◌, append_assoc, append-nil, add-one, subst, arith, length-append}
use Rattle.std.specs.List.{AllByRecursion}
use Rattle.std.specs.Option.{option_to_list}
use Rattle.std.proofs.Math.Seq.{take-suc}
use Rattle.std.proofs.lemmas.List.{length-map}
use Rattle.ids.specs.declared.limits.TheConstants.{GREATEST_NODES, GREATEST_NUMBER, GREATEST_SENT}
use Rattle.ids.specs.declared.names.Ref.{Ref}
use Rattle.msg.specs.declared.body.Message.{Message}
use Rattle.model.specs.Shading.{filled, unasked, mark_for, marks_for}
use Rattle.model.specs.View.{no_link, used, append_to}
use Rattle.model.proofs.Appending.{marks-inside, few-appended}
use Rattle.model.proofs.Shading.{filled-append, unasked-all, unasked-append}
use Rattle.link.specs.Links.{LinksView, IsLinks, link_at}
use Rattle.remote_marks.specs.Asked.{AreSent, IsAsked}

-- one reference more of a list
pub filled-more : (os : List (Option Ref)) (i : ℕ) → i < length os
    → filled (take (i + 1) os) ≡ filled (take i os) ++ option_to_list (get_or os i None)
filled-more os i inside =
    let next : i + 1 ≡ suc i = add-one i in
    let rs : List Ref = filled (take i os) in
    ap (λ (k : ℕ). filled (take k os)) next
    ∙ ap filled (take-suc os i None inside)
    ∙ filled-append (take i os) (get_or os i None ∷ [])
    ∙ ap (λ (z : List Ref). rs ++ z) (append-nil (option_to_list (get_or os i None)))

-- the next reference is asked for
pub included : (own : ℕ) (before now : List Ref) (os : List (Option Ref)) (i : ℕ) → i < length os
    → now ≡ before ++ unasked own before (filled (take i os))
    → now ++ unasked own now (option_to_list (get_or os i None))
    ≡ before ++ unasked own before (filled (take (i + 1) os))
included own before now os i inside all =
    let rs : List Ref = filled (take i os) in
    let us : List Ref = option_to_list (get_or os i None) in
    ap (λ (z : List Ref). z ++ unasked own z us) all
    ∙ append_assoc before (unasked own before rs)
    (unasked own (before ++ unasked own before rs) us)
    ∙ ap (λ (z : List Ref). before ++ z) (sym (unasked-append own before rs us))
    ∙ ap (λ (z : List Ref). before ++ unasked own before z) (sym (filled-more os i inside))

-- the Marks of everything that was added are sent
pub all-asked : {asked targets : List Ref} {was links : LinksView} (before new : List Ref)
    (cycle : ℕ) → asked ≡ before ++ new → targets ≡ new
    → AreSent (marks_for cycle targets) was links → IsAsked before new cycle was asked links
all-asked {was = was} {links = links} before new cycle keys same a =
    let b : AreSent (marks_for cycle new) was links =
    subst (λ (ts : List Ref). AreSent (marks_for cycle ts) was links) same a in
    record { keys = keys; fits = b.fits; sent = b.sent }

-- each new reference has its own number on a link, so there are few
pub few-asked : {asked : List Ref} {cycle : ℕ} {was links : LinksView} (own : ℕ)
    (before rs : List Ref) → AllByRecursion (λ (r : Ref). r.node < length was.links) rs
    → IsLinks links → IsAsked before (unasked own before rs) cycle was asked links
    → length was.links ≤ GREATEST_NODES → length asked ≤ length before + GREATEST_SENT
few-asked {asked = asked} {cycle = cycle} {was = was} own before rs nodes sound done few =
    let new : List Ref = unasked own before rs in
    let ms : List (ℕ × Message) = marks_for cycle new in
    let inside = marks-inside (length was.links) cycle new
    (unasked-all (λ (r : Ref). r.node < length was.links) own before rs nodes) in
    let within : (i : ℕ) → used (get_or (append_to was.links ms) i no_link) ≤ GREATEST_NUMBER =
    λ i. subst (λ (v : LinksView). used (link_at v i) ≤ GREATEST_NUMBER) done.sent
    (sound.links i).used in
    let most = few-appended was.links ms inside within in
    let many : length ms ≡ length new = length-map new (mark_for cycle) in
    let all : length asked ≡ length before + length new =
    ap (λ (xs : List Ref). length xs) done.keys ∙ length-append before new in
    omega (arith, most, many, all, few)
