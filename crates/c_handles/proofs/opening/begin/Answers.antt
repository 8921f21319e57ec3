use Rattle.std.proofs.Common.{◌∙◌, refl, subst, sym}
use Rattle.c_handles.specs.Opening.{IsWhy}
use Rattle.c_handles.proofs.Given.{AreDisksOf, all-begin, no-logs, same-count, why}
use Rattle.c_handles.proofs.opening.begin.Goals as goal

pub returns-in-Ok-clause-begun : goal.returns-in-Ok-clause-begun
returns-in-Ok-clause-begun c =
    let h = c.in-Ok.ensures in
    let given = c.in_ok-disks.ensures in
    let are : AreDisksOf c.args.images.now c.in_ok-disks.disks.items =
    record { held = given.held; short = given.short } in
    record {
      count = h.all ∙ same-count are ∙ c.requires;
      read = all-begin c.args.shape c.args.images.now c.in_ok-disks.disks.items _ are h.read;
      shaped = h.shaped;
      one_age = h.one_age;
      new = h.new;
      logs = no-logs c.args.shape c.args.images.now c.in_ok-disks.disks.items _ are h.all h.read
          (λ k d y at there. (h.logs k d y at there).images refl);
      made = h.made;
    }

pub returns-in-Err-clause-refused : goal.returns-in-Err-clause-refused
returns-in-Err-clause-refused c =
    let h = c.in-Err.ensures in
    let disks = c.in_ok-disks.disks in
    let given = c.in_ok-disks.ensures in
    let are : AreDisksOf c.args.images.now c.in_ok-disks.disks.items =
    record { held = given.held; short = given.short } in
    subst (IsWhy c.args.shape c.args.images.now) (sym c.fault_of.ensures)
    (why _ _ _ c.args.shape are (same-count are ∙ c.requires)
    c.in-Err.unopened h.why)
