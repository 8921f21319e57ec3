-- The names of the logic that the walks share.
pub use mathlib.Core.Path.{◌≡◌, refl, sym, ap, subst, ◌∙◌}
pub use mathlib.Core.List.{List, [], ◌∷◌, ◌++◌}
pub use Prim.Native.Nat.{ℕ}
pub use lib.Dec.{lit<}
pub use seplogic.Ra.Ura.{Ura}
pub use base.Fraction.{full_share}
pub use types.Kit.{fsplit3, fjoin3}
pub use types.Part.{look_in, store_in}
pub use types.Run.{assigns, load}
pub use types.ByLocal.{through}
pub use denote.Laws.{shows}
pub use denote.Memory.{cell_at}
pub use denote.Steps.{closes, opens, peeks}
pub use denote.Triple.Walked.{Goes-ref, stay_ref}
pub use base.Logic.{SProp, ent, emp, never, guard, guard_i, id⊢, via, fst∗, snd∗}
pub use base.Fml.{Fml, ftrue, fex, flft}
pub use mir.Raw.{raw as bare}
pub use mir.Syntax.{Fn, a_type, impl, tcons, tnil, dcons, dnil}
pub use mir.MapTy.{inst_fn}
pub use mir.Val.{Val, vptr, vstruct, vcons, vnil, of_list}
pub use prog.Wp.{WpFn}
pub use types.Logic.{Logic, sem}
pub use types.Kit.{Item, Goal, Seq, Step, step, ‵, raw, ◌⊛◌, some, given, later, at_ret}
pub use types.Kit.{◌$◌, ◌∵◌, !, qed, by, move, keep, drop, use0, use1, use2, split, split3, join}
pub use types.Kit.{rewrite, fsplit, fjoin, fpick, fpack, feq_i, feq_l, pick, learn, await}
pub use types.Kit.{suffices}
pub use types.Match.{live}
pub use types.Part.{agg, sub, whole}
pub use types.Run.{enter, stop, fld, bin, lit, of_opd, and_then, no_more, first, blocks, branches}
pub use types.Run.{exec, returns}
pub use types.ByLocal.{alloc_all, pass_all, free_all, look_at, get, get_in, sets, sets_last, env}
pub use types.ByLocal.{lands_as, lands_last, is}
pub use contract.BorrowLft.{◌⊑◌, ⊑_static}
pub use contract.Monad.{fact, fact_i, fact_use}
pub use contract.Running.{tables, tables_of}
pub use denote.Builtin.{RawPtr}
pub use denote.Exit.{no}
pub use denote.Memory.{lone}
pub use denote.Param.{arg, bounded, layout, param}
pub use denote.Param.Laws.{Laws, arg_laws, param_laws}
pub use denote.Param.NoDrop.{glues}
pub use denote.RattleType.{RattleType, Valss, owns}
pub use denote.RawPtr.{Ptr, Testable, block_ptr, in_a_block, null_ptr, ptr_val, tests_null}
pub use denote.Signature.{plain, type_at, types_at}
pub use denote.Steps.{heard, nothing, only}
pub use denote.Struct.Owning.{shape}
pub use denote.Struct.Struct.{within}
pub use denote.Triple.Call.{calls_at, calls_at_last}
pub use denote.Triple.Clauses.{Lasts, lasts}
pub use denote.Triple.Spec.{triple_of}
pub use denote.Triple.Table.{framed}
pub use denote.Triple.Walked.{Goes-dropped, Stays, stay_dropped, walk_of}
pub use Rattle.core.proofs.alloc.Calls.{Goes-blank}
pub use Rattle.core.proofs.atomic.Steps.{Ptr-Good}
pub use Rattle.core.proofs.cell.Inside.{Good}
pub use Rattle.core.proofs.option.Made.{Some-of, none_of}
pub use Rattle.std.proofs.GlobalToken.{dealloc_token-Testable}
pub use Rattle.std.proofs.raw_atomic.Walks.{leaves, proved_at}
pub use Rattle.std.specs.contracts.impls.GlobalAllocator.TheImpl.{dict, ghosts}
pub use Rattle.std.specs.Prelude.{Option, None, Some}
pub use Rattle.std_alloc.proofs.BoxSteps.Steps.{box_in, box_out}
pub use Rattle.std_alloc.proofs.ResultValues.{and_tt}
pub use Rattle.std_alloc.proofs.VecSteps.Shapes.{after}
pub use Rattle.std_alloc.specs.Box.Ownership.{box_owns}
pub use Rattle.c_handles.specs.Holds.{heap, holds}
