-- The names of the logic that the walks share.
pub use mathlib.Core.Path.{◌≡◌, refl, sym, ap, subst, ◌∙◌}
pub use mathlib.Core.List.{List, [], ◌∷◌, ◌++◌}
pub use Prim.Native.Nat.{ℕ, suc, ◌+◌, ◌-◌, ◌*◌, ◌<◌, ◌^◌}
pub use native.Mathlib.Omega.{arith}
pub use lib.ListN.{length, get_or, set, length-append, length-set}
pub use base.Fraction.{full_share}
pub use base.Fml.{Lft, Share, GName, Fml, ftrue, fsep, fat, froom, flft}
pub use base.Logic.{SProp, ent, sep, id⊢, never}
pub use mir.Syntax.{Fn, a_type, named, w64, ty_array}
pub use mir.MapTy.{inst_fn}
pub use mir.Val.{Val, vptr, vint, vunit, vstruct, vcons, vnil}
pub use prog.Wp.{Env, WpFn}
pub use types.Logic.{Logic, sem}
pub use types.Kit.{‵, raw, ◌⊛◌, some, given, at_ret, ◌$◌, ◌∵◌, !, qed, by, move, keep}
pub use types.Kit.{drop, use0, use1, use2, split, join, rewrite, fsplit, fsplit3, fjoin, fjoin3}
pub use types.Kit.{pick, learn, feq_i, flt_l, flt_i, suffices, done}
pub use types.Part.{whole, sub, look_in}
pub use types.Run.{enter, look, init, stop, fld, load, bin, of_opd, unit_lit, size_lit}
pub use types.Run.{assigns_last, first, blocks, exec, returns}
pub use types.ByLocal.{alloc_all, pass_all, free_all, look_at, get, through, sets, sets_last, env}
pub use contract.Monad.{fact, fact_i}
pub use contract.Running.{tables}
pub use contract.BorrowLft.{◌⊑◌}
pub use denote.Builtin.{usize}
pub use denote.Exit.{yes, no}
pub use denote.Index.{place, place_is, row, others, takes, puts}
pub use denote.Memory.{cell_at, part_at, shares}
pub use denote.Param.{layouts}
pub use denote.RattleType.{RattleType, owns}
pub use denote.RawPtr.{Ptr, block_ptr, in_a_block}
pub use denote.Signature.{plain, types_at}
pub use denote.Steps.{nothing, heard}
pub use denote.Triple.Walked.{Stays, walk_of, stay_dropped, stay_ref, Goes-dropped, Goes-ref}
pub use Rattle.core.proofs.ptr.Rows.{El, R, el_x, elτ, sz, Good, el_out, el_in, times_below}
pub use Rattle.core.proofs.ptr.Rows.{one_below}
pub use Rattle.std.proofs.raw_atomic.Walks.{proved_at, leaves}
