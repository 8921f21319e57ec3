-- The view of `Links` after its ends were changed.
use Rattle.std.proofs.Common.{◌≡◌, ℕ, zero, suc, ◌+◌, ◌<◌, ◌≤◌, Vec, Global, List, [], ◌∷◌, ◌++◌, length, map, take, drop, replicate, get_or, set, refl, sym, ap, ◌∙◌, subst, arith}
use Rattle.std.specs.Prelude.{min, max}
use Rattle.std.specs.Vec.{with_items}
use Rattle.std.proofs.lemmas.List.{append-nil, length-map, map-set, get_or_read, take_all, drop_all, with_items_is}
use Rattle.std.proofs.Math.ListN.{get_or-map}
use Rattle.ids.specs.declared.limits.TheConstants.{GREATEST_NUMBER}
use Rattle.model.specs.View.{Link, no_link, used, all_kept, kept_to}
use Rattle.model.proofs.Lookups.{map-set_same}
use Rattle.link.specs.declared.links.Ends.{Ends}
use Rattle.link_ends.specs.Receivers.{taken_next}
use Rattle.link_ends.specs.Senders.{IsLink}
use Rattle.link.specs.Links.{LinksView, IsLinks, new_links, link_at, got_at, ack_at, taken_next_from, kept_links, kept_peer}
use Rattle.link.specs.Ends.{sender_of, taken_of, saved_of, view_of, new_ends, kept_ends, kept_ends_to}
use Rattle.link.proofs.EveryLink.{links-set, links-taken, links-kept_peer}

-- `e` was read at the place `i` of the ends of links with the view `v`, and belongs to this node
pub record IsRead (es : List Ends) (v : LinksView) (i node : ℕ) (e : Ends) : Type 0 where
  pub view : view_of es ≡ v
  pub read : e ≡ get_or es i e
  pub place : i ≡ node
  pub there : node < length v.links

pub reads : {es : List Ends} {v : LinksView} {i node : ℕ} {e : Ends} →
    view_of es ≡ v → e ≡ get_or es i e → node < length v.links → i ≡ node → IsRead es v i node e
reads view read there place = record { view = view; read = read; place = place; there = there }

ends_read : {es : List Ends} {v : LinksView} {i node : ℕ} {e : Ends} →
    IsRead es v i node e → e ≡ get_or es i new_ends
ends_read {es = es} {i = i} {e = e} r =
    let width = ap (λ (w : LinksView). length w.links) r.view in
    let within : i < length es = omega (arith, length-map es sender_of, width, r.place, r.there) in
    get_or_read es i e within r.read new_ends

pub sender_read : {es : List Ends} {v : LinksView} {i node : ℕ} {e : Ends} →
    IsRead es v i node e → e.sender ≡ link_at v node
sender_read {es = es} {v = v} {i = i} r =
    ap sender_of (ends_read r)
    ∙ sym (get_or-map sender_of es i new_ends)
    ∙ ap (λ (w : LinksView). link_at w i) r.view
    ∙ ap (link_at v) r.place

pub used_read : {es : List Ends} {v : LinksView} {i node : ℕ} {e : Ends} →
    IsRead es v i node e → used e.sender ≡ get_or (map used v.links) node 0
used_read {v = v} {node = node} r =
    ap used (sender_read r) ∙ sym (get_or-map used v.links node no_link)

taken_read : {es : List Ends} {v : LinksView} {i node : ℕ} {e : Ends} →
    IsRead es v i node e → e.receiver.taken ≡ got_at v node
taken_read {es = es} {v = v} {i = i} r =
    ap taken_of (ends_read r)
    ∙ sym (get_or-map taken_of es i new_ends)
    ∙ ap (λ (w : LinksView). got_at w i) r.view
    ∙ ap (got_at v) r.place

saved_read : {es : List Ends} {v : LinksView} {i node : ℕ} {e : Ends} →
    IsRead es v i node e → e.receiver.saved ≡ ack_at v node
saved_read {es = es} {v = v} {i = i} r =
    ap saved_of (ends_read r)
    ∙ sym (get_or-map saved_of es i new_ends)
    ∙ ap (λ (w : LinksView). ack_at w i) r.view
    ∙ ap (ack_at v) r.place

-- a sender was written back
sender_written : {es : List Ends} {v : LinksView} {i node : ℕ} {e : Ends} →
    IsRead es v i node e → (l : Link) →
    view_of (set es i (record { sender = l; receiver = e.receiver }))
    ≡ record v { links = set v.links node l }
sender_written {es = es} {v = v} {i = i} {e = e} r l =
    let x : Ends = record { sender = l; receiver = e.receiver } in
    let taken = map-set_same taken_of es i x new_ends (ap taken_of (ends_read r)) in
    let saved = map-set_same saved_of es i x new_ends (ap saved_of (ends_read r)) in
    rw (map-set sender_of es i x, taken, saved)
    (ap (λ (w : LinksView). record w { links = set w.links i l }) r.view
    ∙ ap (λ (k : ℕ). record v { links = set v.links k l }) r.place)

pub sender_changed : {es : List Ends} {v : LinksView} {i node : ℕ} {e : Ends} →
    (f : Link → Link) → IsRead es v i node e → (l : Link) → l ≡ f e.sender →
    view_of (set es i (record { sender = l; receiver = e.receiver }))
    ≡ record v { links = set v.links node (f (link_at v node)) }
sender_changed {v = v} {node = node} f r l same =
    sender_written r l
    ∙ ap (λ (k : Link). record v { links = set v.links node k }) (same ∙ ap f (sender_read r))

pub sound_written : {es : List Ends} {v : LinksView} {i node : ℕ} {e : Ends} →
    IsRead es v i node e → (l : Link) → IsLinks (view_of es) → IsLink l →
    IsLinks (view_of (set es i (record { sender = l; receiver = e.receiver })))
sound_written {v = v} {node = node} r l old here =
    subst IsLinks (sym (sender_written r l)) (links-set v node l (subst IsLinks r.view old) here)

-- a message was received
pub receiver_taken : {es : List Ends} {v : LinksView} {i node : ℕ} {e : Ends} →
    IsRead es v i node e →
    view_of (set es i (record { sender = e.sender; receiver = taken_next e.receiver }))
    ≡ taken_next_from v node
receiver_taken {es = es} {v = v} {i = i} {node = node} {e = e} r =
    let x : Ends = record { sender = e.sender; receiver = taken_next e.receiver } in
    let sent = map-set_same sender_of es i x new_ends (ap sender_of (ends_read r)) in
    let saved = map-set_same saved_of es i x new_ends (ap saved_of (ends_read r)) in
    rw (sent, map-set taken_of es i x, saved)
    (ap (λ (w : LinksView). record w { got = set w.got i (e.receiver.taken + 1) }) r.view
    ∙ ap (λ (k : ℕ). record v { got = set v.got k (e.receiver.taken + 1) }) r.place
    ∙ ap (λ (k : ℕ). record v { got = set v.got node (k + 1) }) (taken_read r))

pub sound_taken : {es : List Ends} {v : LinksView} {i node : ℕ} {e : Ends} →
    IsRead es v i node e → IsLinks (view_of es) → got_at v node < GREATEST_NUMBER →
    IsLinks (view_of (set es i (record { sender = e.sender; receiver = taken_next e.receiver })))
sound_taken {v = v} {node = node} r old room =
    subst IsLinks (sym (receiver_taken r)) (links-taken v node (subst IsLinks r.view old) room)

-- one node's ends count as saved up to these numbers
pub ends_kept_to : {es : List Ends} {v : LinksView} {i node : ℕ} {e : Ends} →
    (sent received : ℕ) → IsRead es v i node e →
    view_of (set es i (kept_ends_to sent received e)) ≡ kept_peer v node sent received
ends_kept_to {es = es} {v = v} {i = i} {node = node} {e = e} sent received r =
    let x : Ends = kept_ends_to sent received e in
    let taken = map-set_same taken_of es i x new_ends (ap taken_of (ends_read r)) in
    let now = λ (w : LinksView) (k : ℕ) (l : Link) (acked got : ℕ). record w {
      links = set w.links k (kept_to sent l);
      acks = set w.acks k (max acked (min received got));
    } in
    rw (map-set sender_of es i x, taken, map-set saved_of es i x)
    (ap (λ (w : LinksView). now w i e.sender e.receiver.saved e.receiver.taken) r.view
    ∙ ap (λ (k : ℕ). now v k e.sender e.receiver.saved e.receiver.taken) r.place
    ∙ ap (λ (l : Link). now v node l e.receiver.saved e.receiver.taken) (sender_read r)
    ∙ ap (λ (k : ℕ). now v node (link_at v node) k e.receiver.taken) (saved_read r)
    ∙ ap (λ (k : ℕ). now v node (link_at v node) (ack_at v node) k) (taken_read r))

pub sound_kept_to : {es : List Ends} {v : LinksView} {i node : ℕ} {e : Ends} →
    (sent received : ℕ) → IsRead es v i node e → IsLinks (view_of es) →
    IsLinks (view_of (set es i (kept_ends_to sent received e)))
sound_kept_to {v = v} {node = node} sent received r old =
    subst IsLinks (sym (ends_kept_to sent received r))
    (links-kept_peer v node sent received (subst IsLinks r.view old))

ends_kept : (es : List Ends) → view_of (map kept_ends es) ≡ kept_links (view_of es)
ends_kept [] = refl
ends_kept (e ∷ es) =
    let l = all_kept e.sender in
    let n = e.receiver.taken in
    ap (λ (v : LinksView). record { links = l ∷ v.links; got = n ∷ v.got; acks = n ∷ v.acks })
    (ends_kept es)

-- what a loop over all ends has written when it ends
pub all_written : (es : Vec Ends Global) (first now : List Ends) (n : ℕ) → first ≡ es.items →
    now ≡ map kept_ends (take n first) ++ drop n first → length first ≤ n →
    view_of (with_items es now).items ≡ kept_links (view_of es.items)
all_written es first now n same wrote through =
    let mapped : now ≡ map kept_ends first =
    wrote ∙ rw (take_all n first through, drop_all n first through, append-nil) refl in
    let width : length now ≡ es.len =
    ap length mapped ∙ length-map first kept_ends ∙ ap length same ∙ sym es.ok.0 in
    ap view_of (with_items_is es now width ∙ mapped ∙ ap (map kept_ends) same)
    ∙ ends_kept es.items

pub ends_new : (width : ℕ) → view_of (replicate width new_ends) ≡ new_links width
ends_new zero = refl
ends_new (suc n) =
    ap (λ (v : LinksView). record { links = no_link ∷ v.links; got = 0 ∷ v.got; acks = 0 ∷ v.acks })
    (ends_new n)
