-- What owns a pointer to a box or null, taken apart and made. Assumes `Logic`.
use Rattle.c_handles.proofs.Names.{◌≡◌, refl, subst, List, [], ◌∷◌, ◌++◌, ℕ, Ura, ent, never}
use Rattle.c_handles.proofs.Names.{fst∗, snd∗, via, guard, guard_i, bare, Val, vstruct}
use Rattle.c_handles.proofs.Names.{vcons, vnil, of_list, Logic, sem, Item, Goal, Seq, Step, step, ‵, given}
use Rattle.c_handles.proofs.Names.{◌$◌, drop, fsplit, fjoin, fpick, fpack, feq_i, feq_l, learn, nothing}
use Rattle.c_handles.proofs.Names.{use1, fact_use, RawPtr, lone, layout, RattleType, Valss, Ptr}
use Rattle.c_handles.proofs.Names.{Testable, block_ptr, null_ptr, ptr_val, shape, within, Ptr-Good}
use Rattle.c_handles.proofs.Names.{dealloc_token-Testable, ghosts, Option, None, Some, and_tt, box_owns}
use Rattle.c_handles.proofs.Names.{heap, holds, Good}
use base.Fraction.{full_share}
use mir.Val.{has_ty}
use mir.Syntax.{ty_ptr}
use base.Logic.{emp}
use denote.RawPtr.{lies_at, in_a_block}
use denote.Shadow.{makes_shadow}
use denote.Struct.Struct.{Struct}
use Rattle.c_handles.specs.contracts.held.Held as held

-- the machine value of a struct whose only field is this pointer
abbrev pub word : Ptr → Val
word p = vstruct (vcons (ptr_val p) vnil)

module _ (R : RattleType) where
  abbrev pub Holder : RattleType
  Holder = held.the_row R

  pub word-good : (p : Ptr) → Good (layout Holder) (word p)
  word-good p = (and_tt (has_ty ty_ptr (ptr_val p)) (Ptr-Good p).0, ((Ptr-Good p).1, tt))

  module _ {M : Type 1} {𝓤 : Ura M} (𝓛 : Logic 𝓤) where
    -- a box that can be freed is at the start of a block, so its pointer may be compared with null
    tested : (p : Ptr) (x : R.Denot) → ent 𝓤 (sem 𝓛 (box_owns (ghosts.dealloc_token heap) R p x))
        (guard 𝓤 (Testable p) (sem 𝓛 (box_owns (ghosts.dealloc_token heap) R p x)))
    tested p x =
        let token = sem 𝓛 (ghosts.dealloc_token heap (bare (lone R.mir)) p) in
        fact_use 𝓤 (Testable p)
        (via 𝓤 token (snd∗ 𝓤 (sem 𝓛 (lies_at R full_share p x)) token)
        (dealloc_token-Testable 𝓛 heap (bare (lone R.mir)) p))
        (guard_i 𝓤 (Testable p) (sem 𝓛 (box_owns (ghosts.dealloc_token heap) R p x)))

  module _ {M : Type 1} {𝓤 : Ura M} {𝓛 : Logic 𝓤} {K : Type 0} {Γ : List (Item 𝓤)} {G : Goal 𝓤 𝓛.H}
    where
      pub held_out : K → (d : Holder.Denot) (vs : List Val)
          → (vs ≡ word d.at ∷ [] → Seq K 𝓛 (‵ (holds R d.at d.value) ∷ Γ) G)
          → Seq K 𝓛 (‵ (Holder.own_val d vs) ∷ Γ) G
      held_out t d vs then =
          fsplit t $ fpick t (λ vss. fsplit t $ feq_l t (λ ev. fsplit t $ feq_l t (λ ep. drop t $
          then (subst (λ (ps : List Val). vs ≡ vstruct (of_list (ps ++ [])) ∷ []) ep ev))))

      pub held_in : K → (p : Ptr) (x : Option R.Denot)
          → Step K 𝓛 (‵ (Holder.own_val (record { at = p; value = x }) (word p ∷ [])) ∷ Γ) G
          (‵ (holds R p x) ∷ Γ) G
      held_in t p x = step (λ s. nothing t $
          feq_i t (List Val) (ptr_val p ∷ []) (ptr_val p ∷ []) refl $ fjoin t $
          feq_i t (List Val) (word p ∷ []) (word p ∷ []) refl $ fjoin t $
          fpack t (Valss (RawPtr ∷ []))
          (within (shape (held.the_type R)) (p, tt) (word p ∷ []))
          (ptr_val p ∷ [], tt) $ fjoin t $ s)

      -- the two cases
      pub either : K → (p : Ptr) (x : Option R.Denot)
          → (p ≡ null_ptr → x ≡ None → Seq K 𝓛 Γ G)
          → ((b o : ℕ) (y : R.Denot) → p ≡ block_ptr b o → x ≡ Some y → Testable (block_ptr b o)
          → Seq K 𝓛 (‵ (box_owns (ghosts.dealloc_token heap) R (block_ptr b o) y) ∷ Γ) G)
          → Seq K 𝓛 (‵ (holds R p x) ∷ Γ) G
      either t p None none one = fpick t (λ e. drop t $ none e refl)
      either t p (Some y) none one =
          in_a_block t p (λ q. box_owns (ghosts.dealloc_token heap) R q y)
          (fst∗ 𝓤 (never 𝓤) (sem 𝓛 (ghosts.dealloc_token heap (bare (lone R.mir)) null_ptr)))
          (λ b o e.
          use1 𝓛 (given (Testable (block_ptr b o))
          (‵ (box_owns (ghosts.dealloc_token heap) R (block_ptr b o) y)))
          (tested 𝓛 (block_ptr b o) y) $ learn t (λ test. one b o y e refl test))

-- the fields of such a struct, which own nothing
abbrev pub Pointer : RattleType
Pointer = Struct (record { name = []; args = []; types = []; fields = RawPtr ∷ [] })

pub fields-made : {M : Type 1} {𝓤 : Ura M} (𝓛 : Logic 𝓤) (p : Ptr)
    → ent 𝓤 (emp 𝓤) (sem 𝓛 (Pointer.own_val (p, tt) (word p ∷ [])))
fields-made 𝓛 p =
    makes_shadow 𝓛 (Pointer.own_val (p, tt) (word p ∷ [])) (λ vss. (tt, (tt, tt)))
    ((ptr_val p ∷ [], tt), (refl, (refl, tt)))
