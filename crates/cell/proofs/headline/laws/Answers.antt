use Rattle.cell.proofs.Blank.{blank-new}
use Rattle.cell.proofs.AlikeCuts.{alike-reach}
use Rattle.cell.proofs.Applied.{balances-add-up, nodes-agree, garbage-goes, old-garbage-goes, reach-is-live, reach-resolves}
use Rattle.cell.proofs.Composed.{cells-free-none-reachable, cells-reclaim-garbage, cells-reclaim-none-reachable, cells-reclaim-young, cells-refuse-none-in-turn, private-is-hidden}
use Rattle.cell.proofs.Acks.{cells-refuse-no-ack}
use Rattle.cell.proofs.Copies.{copies-are-reached}
use Rattle.cell.proofs.Dues.{next-taken-in}
use Rattle.cell.proofs.Left.{left-opened, restarted-reached}
use Rattle.cell.proofs.OneAge.{begin-of-one-age, left-is-of-one-age, reopened-is-reached}
use Rattle.cell.proofs.Reaches.{alike-go-on, fresh-reached, new-reached, stays-reached, world-of-reached}
use Rattle.cell.proofs.Sights.{cells-are-told-so, cells-read-so, new-is-unseen, reached-is-unseen, sights-are-kept, sights-go-on}
use Rattle.cell.proofs.headline.laws.Goals as goal

pub returns-clause-new : goal.returns-clause-new
returns-clause-new c = new-reached

pub returns-clause-frees_none_reachable : goal.returns-clause-frees_none_reachable
returns-clause-frees_none_reachable c = cells-free-none-reachable

pub returns-clause-reclaims_free_none_reachable : goal.returns-clause-reclaims_free_none_reachable
returns-clause-reclaims_free_none_reachable c = cells-reclaim-none-reachable

pub returns-clause-private_garbage : goal.returns-clause-private_garbage
returns-clause-private_garbage c = cells-reclaim-garbage

pub returns-clause-young_garbage : goal.returns-clause-young_garbage
returns-clause-young_garbage c = cells-reclaim-young

pub returns-clause-private : goal.returns-clause-private
returns-clause-private c = private-is-hidden

pub returns-clause-in_turn : goal.returns-clause-in_turn
returns-clause-in_turn c = cells-refuse-none-in-turn

pub returns-clause-next : goal.returns-clause-next
returns-clause-next c = next-taken-in

pub returns-clause-acknowledgements : goal.returns-clause-acknowledgements
returns-clause-acknowledgements c = cells-refuse-no-ack

pub returns-clause-restarted : goal.returns-clause-restarted
returns-clause-restarted c = restarted-reached

pub returns-clause-left : goal.returns-clause-left
returns-clause-left c = left-opened

pub returns-clause-blank : goal.returns-clause-blank
returns-clause-blank c = blank-new

pub returns-clause-fresh : goal.returns-clause-fresh
returns-clause-fresh c = fresh-reached

pub returns-clause-onward : goal.returns-clause-onward
returns-clause-onward c = stays-reached

pub returns-clause-opened : goal.returns-clause-opened
returns-clause-opened c = world-of-reached

pub returns-clause-alike : goal.returns-clause-alike
returns-clause-alike c = alike-go-on

pub returns-clause-alike_reach : goal.returns-clause-alike_reach
returns-clause-alike_reach c = alike-reach

pub returns-clause-live : goal.returns-clause-live
returns-clause-live c = reach-is-live

pub returns-clause-balances : goal.returns-clause-balances
returns-clause-balances c = balances-add-up

pub returns-clause-agreement : goal.returns-clause-agreement
returns-clause-agreement c = nodes-agree

pub returns-clause-old_garbage : goal.returns-clause-old_garbage
returns-clause-old_garbage c = old-garbage-goes

pub returns-clause-garbage_goes : goal.returns-clause-garbage_goes
returns-clause-garbage_goes c = garbage-goes

pub returns-clause-resolves : goal.returns-clause-resolves
returns-clause-resolves c = reach-resolves

pub returns-clause-one_age : goal.returns-clause-one_age
returns-clause-one_age c = begin-of-one-age

pub returns-clause-left_of_one_age : goal.returns-clause-left_of_one_age
returns-clause-left_of_one_age c = left-is-of-one-age

pub returns-clause-reopened : goal.returns-clause-reopened
returns-clause-reopened c = reopened-is-reached

pub returns-clause-copies : goal.returns-clause-copies
returns-clause-copies c = copies-are-reached

pub returns-clause-transparent : goal.returns-clause-transparent
returns-clause-transparent c = reached-is-unseen

pub returns-clause-told : goal.returns-clause-told
returns-clause-told c = cells-are-told-so

pub returns-clause-read : goal.returns-clause-read
returns-clause-read c = cells-read-so

pub returns-clause-unseen : goal.returns-clause-unseen
returns-clause-unseen c = new-is-unseen

pub returns-clause-seen_on : goal.returns-clause-seen_on
returns-clause-seen_on c = sights-go-on

pub returns-clause-seen_again : goal.returns-clause-seen_again
returns-clause-seen_again c = sights-are-kept
