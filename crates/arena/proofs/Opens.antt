-- A `&mut` to a block is opened to its places, and closed again. Assumes `Logic`.
use mathlib.Core.Path.{◌≡◌, refl, sym, ap, ◌∙◌}
use mathlib.Core.List.{List, [], ◌∷◌, ◌++◌}
use Prim.Native.Nat.{ℕ, ◌+◌, ◌*◌, ◌<◌, ◌^◌}
use lib.ListN.{length}
use seplogic.Ra.Ura.{Ura}
use base.Fraction.{full_share}
use base.Fml.{Lft, Share, GName, flft, fobs, fauth, fbor, fobor}
use base.Logic.{id⊢, never}
use mir.Val.{Val, vptr, vstruct, vcons, vnil, of_list}
use types.Kit.{Item, Goal, Seq, Step, Soaks, step, ‵, ◌$◌, move, rewrite, fsplit, fjoin, flt_i}
use types.Kit.{flt_l}
use types.Logic.{Logic}
use types.SemTy.{Body}
use denote.Index.{row}
use denote.Copied.{Struct-Copied}
use denote.Laws.{Is, shows}
use denote.Memory.{cell_at, mem}
use denote.Opens.{Opens}
use denote.Param.Laws.{param_laws}
use denote.RattleType.{RattleType}
use denote.RawPtr.{Ptr, block_ptr, in_a_block, ptr_val}
use denote.Steps.{opens, closes, peeks}
use denote.Struct.Laws.{RawPtr-copy}
use denote.Struct.Owning.{shape}
use denote.Struct.Struct.{Struct}
use Rattle.core.proofs.ptr.Rows.{El, R, sz}
use Rattle.arena.specs.Block.{room_of, block_owns}
use Rattle.arena.specs.contracts.block.Block as block
use Rattle.arena.proofs.block.Block.TheLaws.{lowers}

module _ (E : El) where
  abbrev pub B : RattleType
  B = block.the_row (R E)

  -- the pointer, which is all that a block's owner has in memory
  abbrev pub Fields : RattleType
  Fields = Struct (shape (block.the_type (R E)))

  abbrev pub owner : ℕ → ℕ → Val
  owner b o = vstruct (vcons (vptr b o) vnil)

  abbrev pub IsSmall : B.Denot → Type 0
  IsSmall d = (d.emptied + length d.values + d.unused) * sz E < 2 ^ 63

  module _ {M : Type 1} {𝓤 : Ura M} {𝓛 : Logic 𝓤} {K : Type 0} {Γ : List (Item 𝓤)} {G : Goal 𝓤 𝓛.H}
    where
      -- the room behind the values and that before them, the values, and the owner's cell
      pub block_in : K → Soaks G → {κ : Lft} {q : Share} {γ : GName} (d : B.Denot) (rb ro : ℕ)
          → ((b o : ℕ) (ms : List Val) → d.start ≡ block_ptr b o → ms ≡ owner b o ∷ [] → IsSmall d
          → Seq K 𝓛 (‵ (room_of (R E) d.unused b ((d.emptied + length d.values) * sz E + o))
          ∷ ‵ (room_of (R E) d.emptied b o)
          ∷ ‵ (row (R E) full_share d.values b (d.emptied * sz E + o))
          ∷ ‵ (cell_at full_share B.mir (owner b o ∷ []) rb ro)
          ∷ ‵ (Fields.own_val (d.start, tt) ms)
          ∷ ‵ (fobor κ q (Body (mem B) rb ro γ)) ∷ ‵ (fobs γ (B.coded.code d))
          ∷ ‵ (fauth γ (B.coded.code d)) ∷ Γ) G)
          → Seq K 𝓛 (‵ (fobs γ (B.coded.code d)) ∷ ‵ (fbor κ (Body (mem B) rb ro γ)) ∷ ‵ (flft κ q)
          ∷ Γ) G
      block_in t z {κ} {q} {γ} d rb ro then =
          opens t z B {h = d} rb ro (λ ms. move t (1 ∷ []) $
          peeks t B _ (shows 𝓛 B) d ms (λ is. fsplit t $ move t (1 ∷ []) $
          in_a_block t d.start (λ p. block_owns (R E) p d.emptied d.values d.unused)
          (id⊢ 𝓤 (never 𝓤))
          (λ b o e. fsplit t $ flt_l t (λ small. fsplit t $ move t (1 ∷ []) $ fsplit t $
          move t (1 ∷ []) $
          let laid = lowers (R E) (param_laws 0 E.row E.laws) in
          let word : ms ≡ owner b o ∷ [] = laid.val_is d ms is
          ∙ ap (λ (p : Ptr). laid.lowered (record d { start = p }) ∷ []) e in
          move t (0 ∷ 1 ∷ 2 ∷ 4 ∷ []) $
          rewrite t 3 (λ (ws : List Val). ‵ (cell_at full_share B.mir ws rb ro)) word refl $
          then b o ms e word small))))

      pub block_out : K → Soaks G
          → {κ : Lft} {q : Share} {γ : GName} (d new : B.Denot) (rb ro b o : ℕ) (ms : List Val)
          → new.start ≡ block_ptr b o → d.start ≡ new.start → ms ≡ owner b o ∷ [] → IsSmall new
          → Step K 𝓛 (‵ (fobs γ (B.coded.code new)) ∷ ‵ (fbor κ (Body (mem B) rb ro γ))
          ∷ ‵ (flft κ q)
          ∷ Γ) G
          (‵ (room_of (R E) new.unused b ((new.emptied + length new.values) * sz E + o))
          ∷ ‵ (room_of (R E) new.emptied b o)
          ∷ ‵ (row (R E) full_share new.values b (new.emptied * sz E + o))
          ∷ ‵ (cell_at full_share B.mir (owner b o ∷ []) rb ro)
          ∷ ‵ (Fields.own_val (d.start, tt) ms)
          ∷ ‵ (fobor κ q (Body (mem B) rb ro γ)) ∷ ‵ (fobs γ (B.coded.code d))
          ∷ ‵ (fauth γ (B.coded.code d)) ∷ Γ) G
      block_out t z {κ} {q} {γ} d new rb ro b o ms e kept word small = step (λ s.
          move t (1 ∷ 0 ∷ []) $ fjoin t $ move t (1 ∷ 0 ∷ []) $ fjoin t $
          flt_i t ((new.emptied + length new.values + new.unused) * sz E) (2 ^ 63) small $ fjoin t $
          rewrite t 0 (λ (p : Ptr). ‵ (block_owns (R E) p new.emptied new.values new.unused))
          (sym e) refl $
          rewrite t 1 (λ (ws : List Val). ‵ (cell_at full_share B.mir ws rb ro)) (sym word) refl $
          rewrite t 2 (λ (p : Ptr). ‵ (Fields.own_val (p, tt) ms)) kept refl $ move t (2 ∷ 0 ∷ []) $
          fjoin t $ move t (1 ∷ []) $ closes t z B new ms rb ro $ s)

-- the pointer is read through a `&` to the block
pub fields-open : (E : El) {M : Type 1} {𝓤 : Ura M} (𝓛 : Logic 𝓤) → Opens 𝓛 (Fields E)
fields-open E {M} {𝓤 = 𝓤} 𝓛 =
    (Struct-Copied 𝓛 (shape (block.the_type (R E))) (refl, tt) (RawPtr-copy.copied M 𝓤 𝓛, tt)).opens

pub fields-told : (E : El) (p : Ptr) (vs : List Val) → Is (Fields E) (p, tt) vs
    → vs ≡ vstruct (vcons (ptr_val p) vnil) ∷ []
fields-told E p vs is = is.1.0 ∙ ap (λ (ws : List Val). vstruct (of_list (ws ++ [])) ∷ []) is.1.1.0
