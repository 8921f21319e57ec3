use Rattle.std.proofs.Common.{◌≡◌, ◌<◌, ◌∙◌, All, [], ap, length, arith, subst, sym}
use Rattle.std.proofs.lemmas.List.{length-map}
use Rattle.std.proofs.lemmas.Result.{err_from_is_err_and}
use Rattle.std.proofs.lemmas.List.Elements.{All-append, All-cons, All-nil}
use Rattle.node_store.specs.Stores.{disk_of, logs_in}
use Rattle.cell.specs.Cells.{IsNew}
use Rattle.cell.proofs.Ready.{first-ready, handed-on, later-ready, made-new, shift, shifted, shifted-by}
use Rattle.cell.proofs.joining.seat_all.Goals as goal

pub new-requires : goal.new-requires
new-requires g c =
    let some : 0 < length c.loop.nodes.items = omega arith in
    let h = first-ready c.remove-node.result c.remove-store.result c.remove-seat.result
    c.loop.invariant.ready some
    (c.remove-node.ensures.value, c.remove-store.ensures.value, c.remove-seat.ensures.value) in
    record { seat = h.stands; ready = h.lies.0; disk = h.lies.1 }

pub loop-preserved : goal.loop-preserved
loop-preserved g c =
    let was = c.loop.invariant in
    let some : 0 < length c.loop.nodes.items = omega arith in
    let made = c.in_ok-new.ensures.made in
    let stored = shift _ _ c.loop.stores.items c.in_ok-push.ensures.items
    c.remove-store.ensures.value (omega (arith, some, was.ready.shelved))
    c.remove-store.ensures.items in
    record {
      ready = later-ready _ _ _ was.ready
          (c.remove-node.ensures.items, c.remove-store.ensures.items, c.remove-seat.ensures.items);
      left = omega (arith, was.left, c.remove-node.ensures.len);
      all = was.all;
      nodes = shifted (λ v. v.node)
          (shift _ _ _ c.in_ok-push.ensures.items c.remove-node.ensures.value some
          c.remove-node.ensures.items)
          (ap (λ v. v.node) made) was.nodes;
      disks = shifted-by (λ v. v.disk) disk_of stored (ap (λ v. v.disk) made) was.disks;
      logs = shifted-by (λ v. v.logs) logs_in stored (ap (λ v. v.logs) made) was.logs;
      seats = shifted (λ v. v.seat)
          (shift _ _ _ c.in_ok-push.ensures.items c.remove-seat.ensures.value
          (omega (arith, some, was.ready.seated)) c.remove-seat.ensures.items)
          (ap (λ v. v.seat) made) was.seats;
      new = subst (All IsNew) (sym c.in_ok-push.ensures.items)
          (All-append IsNew _ _ was.new
          (All-cons IsNew _ [] (made-new _ _ _ _ _ made) (All-nil IsNew)));
    }

pub returns-in_err-new : goal.returns-in_err-new
returns-in_err-new g c =
    let p = err_from_is_err_and c.from_residual.result c.from_residual.ensures.1 in
    rw (p.1, p.2) (record {
      nodes = tt;
      disks = tt;
      logs = tt;
      seats = tt;
      new = tt;
      refused = c.in_err-new.ensures.refused;
    })

pub returns-in_err-push : goal.returns-in_err-push
returns-in_err-push g c =
    let exit = c.from_residual-in_err-push in
    let p = err_from_is_err_and exit.result exit.ensures.1 in
    rw p.1 (record { nodes = tt; disks = tt; logs = tt; seats = tt; new = tt; refused = p.2 })

pub returns : goal.returns
returns g c =
    let was = c.loop.invariant in
    let none : length c.loop.nodes.items ≡ 0 = omega arith in
    let shelved = was.ready.shelved ∙ none in
    record {
      nodes = handed-on _ _ _ was.nodes none;
      disks = handed-on _ _ _ was.disks (length-map c.loop.stores.items disk_of ∙ shelved);
      logs = handed-on _ _ _ was.logs (length-map c.loop.stores.items logs_in ∙ shelved);
      seats = handed-on _ _ _ was.seats (was.ready.seated ∙ none);
      new = was.new;
      refused = tt;
    }
