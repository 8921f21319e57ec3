use Rattle.laws.proofs.Cuts.{cuts-extend}
use Rattle.laws.proofs.Deliveries.{targets-are-live}
use Rattle.laws.proofs.Live.{balances-add-up, nodes-agree, reach-is-live}
use Rattle.laws.proofs.Net.{acknowledged-is-taken-in, net-grows, none-beyond}
use Rattle.laws.proofs.OldGarbage.{garbage-goes, old-garbage-goes}
use Rattle.laws.proofs.Privacy.{private-is-unknown}
use Rattle.laws.proofs.Resolves.{reach-resolves}
use Rattle.laws.specs.Fairness.{RoundsEndCycle, RoundsEndMarking, RoundsFreeGarbage, RoundsLetBegin}
use Rattle.laws.proofs.progress.Rounded.{rounds-end-cycle, rounds-end-marking, rounds-free-garbage, rounds-let-begin}
use Rattle.c_handles.proofs.Turns.{turns-are-rounds}
use Rattle.c_handles.proofs.Fairness.{calls-end-cycle, calls-end-marking, calls-free-garbage}
use Rattle.laws.specs.Privacy.{PrivateIsUnknown}
use Rattle.laws.specs.Progress.{CycleCanEnd, EndIsFoundSoon, GarbageCanGo, MarkingCanEnd}
use Rattle.laws.proofs.progress.Theorems.{cycle-can-end, end-is-found-soon, garbage-can-go, marking-can-end}
use Rattle.c_handles.proofs.Went.{lists-are-exact}
use Rattle.laws.specs.Statements.{AcknowledgedIsTakenIn, BalancesAddUp, CutsExtend, GarbageGoes, NetGrows, NodesAgree, NoneBeyond, OldGarbageGoes, ReachIsLive, ReachResolves, TargetsAreLive}
use Rattle.c_handles.proofs.Theorems.{calls-go-on, handles-agree, handles-are-told-so, handles-are-unseen, handles-drop-old-garbage, none-is-refused-in-turn, of-every-shown, of-shown-spaces, programs-are-shown, programs-go-on, reclaims-free-none, sweeps-free-none}
use Rattle.c_handles.proofs.Trails.{turns-are-calls}
use Rattle.c_handles.proofs.headline.laws.Goals as goal

pub returns-clause-shown : goal.returns-clause-shown
returns-clause-shown c = programs-are-shown

pub returns-clause-goes_on : goal.returns-clause-goes_on
returns-clause-goes_on c = programs-go-on

pub returns-clause-each_call : goal.returns-clause-each_call
returns-clause-each_call c = calls-go-on

pub returns-clause-turns : goal.returns-clause-turns
returns-clause-turns c = turns-are-calls

pub returns-clause-frees_none_reachable : goal.returns-clause-frees_none_reachable
returns-clause-frees_none_reachable c = sweeps-free-none

pub returns-clause-reclaims_free_none_reachable : goal.returns-clause-reclaims_free_none_reachable
returns-clause-reclaims_free_none_reachable c = reclaims-free-none

pub returns-clause-agreement : goal.returns-clause-agreement
returns-clause-agreement c = handles-agree

pub returns-clause-old_garbage : goal.returns-clause-old_garbage
returns-clause-old_garbage c = handles-drop-old-garbage

pub returns-clause-in_turn : goal.returns-clause-in_turn
returns-clause-in_turn c = none-is-refused-in-turn

pub returns-clause-transparent : goal.returns-clause-transparent
returns-clause-transparent c = handles-are-unseen

pub returns-clause-told : goal.returns-clause-told
returns-clause-told c = handles-are-told-so

pub returns-clause-net : goal.returns-clause-net
returns-clause-net c = of-every-shown NetGrows net-grows

pub returns-clause-within : goal.returns-clause-within
returns-clause-within c = of-every-shown NoneBeyond none-beyond

pub returns-clause-taken_in : goal.returns-clause-taken_in
returns-clause-taken_in c = of-every-shown AcknowledgedIsTakenIn acknowledged-is-taken-in

pub returns-clause-live : goal.returns-clause-live
returns-clause-live c = of-every-shown ReachIsLive reach-is-live

pub returns-clause-cuts_extend : goal.returns-clause-cuts_extend
returns-clause-cuts_extend c = of-every-shown CutsExtend cuts-extend

pub returns-clause-nodes_agree : goal.returns-clause-nodes_agree
returns-clause-nodes_agree c = of-every-shown NodesAgree nodes-agree

pub returns-clause-balances : goal.returns-clause-balances
returns-clause-balances c = of-every-shown BalancesAddUp balances-add-up

pub returns-clause-old_garbage_goes : goal.returns-clause-old_garbage_goes
returns-clause-old_garbage_goes c = of-every-shown OldGarbageGoes old-garbage-goes

pub returns-clause-garbage_goes : goal.returns-clause-garbage_goes
returns-clause-garbage_goes c = of-every-shown GarbageGoes garbage-goes

pub returns-clause-resolves : goal.returns-clause-resolves
returns-clause-resolves c = of-every-shown ReachResolves reach-resolves

pub returns-clause-private : goal.returns-clause-private
returns-clause-private c = of-every-shown PrivateIsUnknown private-is-unknown

pub returns-clause-targets : goal.returns-clause-targets
returns-clause-targets c = of-every-shown TargetsAreLive targets-are-live

pub returns-clause-lists : goal.returns-clause-lists
returns-clause-lists c = lists-are-exact

pub returns-clause-marking : goal.returns-clause-marking
returns-clause-marking c = of-shown-spaces MarkingCanEnd marking-can-end

pub returns-clause-cycle : goal.returns-clause-cycle
returns-clause-cycle c = of-shown-spaces CycleCanEnd cycle-can-end

pub returns-clause-garbage : goal.returns-clause-garbage
returns-clause-garbage c = of-shown-spaces GarbageCanGo garbage-can-go

pub returns-clause-soon : goal.returns-clause-soon
returns-clause-soon c = of-shown-spaces EndIsFoundSoon end-is-found-soon

pub returns-clause-rounds_end_marking : goal.returns-clause-rounds_end_marking
returns-clause-rounds_end_marking c = of-shown-spaces RoundsEndMarking rounds-end-marking

pub returns-clause-rounds_end_cycle : goal.returns-clause-rounds_end_cycle
returns-clause-rounds_end_cycle c = of-shown-spaces RoundsEndCycle rounds-end-cycle

pub returns-clause-rounds_let_begin : goal.returns-clause-rounds_let_begin
returns-clause-rounds_let_begin c = of-shown-spaces RoundsLetBegin rounds-let-begin

pub returns-clause-rounds_free_garbage : goal.returns-clause-rounds_free_garbage
returns-clause-rounds_free_garbage c = of-shown-spaces RoundsFreeGarbage rounds-free-garbage

pub returns-clause-calls_end_marking : goal.returns-clause-calls_end_marking
returns-clause-calls_end_marking c = calls-end-marking

pub returns-clause-calls_end_cycle : goal.returns-clause-calls_end_cycle
returns-clause-calls_end_cycle c = calls-end-cycle

pub returns-clause-calls_free_garbage : goal.returns-clause-calls_free_garbage
returns-clause-calls_free_garbage c = calls-free-garbage

pub returns-clause-turns_are_rounds : goal.returns-clause-turns_are_rounds
returns-clause-turns_are_rounds c = turns-are-rounds
