use Rattle.std.proofs.Common.{◌≡◌, ◌<◌, ◌≤◌, ◌++◌, ◌∷◌, ◌∙◌, [], ap, arith, get_or, inr, length, map, refl, sym, take}
use Rattle.std.proofs.lemmas.List.{map-append, take_all, take_more}
use Rattle.std.proofs.lemmas.Option.{slice_get_within}
use Rattle.std.proofs.lemmas.Result.{err_from_is_err_and}
use Rattle.disk.specs.Memory.{held_by}
use Rattle.disk_shelf.proofs.Quiet.{handed_err, memory_no_bad, ok_no_err}
use Rattle.wire.proofs.NewWires.{there}
use Rattle.c_handles.specs.Opening.{Image, IsShort, areas_in}
use Rattle.c_handles.proofs.Lists.{each-more}
use Rattle.c_handles.proofs.opening.disks_of.Goals as goal

pub loop-place-preserved : goal.loop-place-preserved
loop-place-preserved c =
    let images = c.args.images.now in
    let place = c.loop-place.place in
    let image : Image = c.index-images-place.result in
    let was = c.loop-place.invariant in
    let inside : place < length images = omega arith in
    let here : get_or images place image ≡ image = sym c.index-images-place.is in
    let done = c.loop-place.disks.items in
    let disk = c.in_ok-disk.disk in
    record {
      held = ap (map held_by) c.in_ok-push.ensures.items ∙ map-append held_by done (disk ∷ [])
          ∙ (λ i. was.held i ++ (c.in_ok-disk.ensures.held ∙ ap areas_in (sym here)) i ∷ [])
          ∙ sym (ap (map areas_in) (take_more images place image inside)
          ∙ map-append areas_in (take place images) (get_or images place image ∷ []));
      short = each-more IsShort images place image here was.short c.in_ok-disk.ensures.short;
      end = was.end;
    }

pub loop-place-init : goal.loop-place-init
loop-place-init c = record {
  held = ap (map held_by) c.new-disks.ensures.items;
  short = λ k i below at. absurd (omega (arith, below));
  end = refl;
}

pub returns-in_err-disk : goal.returns-in_err-disk
returns-in_err-disk c =
    let p = err_from_is_err_and c.from_residual.result c.from_residual.ensures.1 in
    let images = c.args.images.now in
    let place = c.loop-place.place in
    let image : Image = c.index-images-place.result in
    let inside : place < length images = omega arith in
    let said = c.in_err-disk.ensures in
    rw (p.1, p.2) (record {
      held = tt;
      short = tt;
      long = λ is. record {
        place = place;
        value = image;
        there = there images place image inside c.index-images-place.is;
        is = said.long (handed_err refl is);
      };
      others = said.others;
    })

pub returns-in_err-push : goal.returns-in_err-push
returns-in_err-push c =
    let exit = c.from_residual-in_err-push in
    let p = err_from_is_err_and exit.result exit.ensures.1 in
    rw (p.1, p.2) (record {
      held = tt;
      short = tt;
      long = λ is. absurd (memory_no_bad is);
      others = inr refl;
    })

pub returns : goal.returns
returns c =
    let images = c.args.images.now in
    let was = c.loop-place.invariant in
    let all : length images ≤ c.loop-place.place =
    omega (arith, was.end, c.loop-place-test.false) in
    record {
      held = was.held ∙ ap (map areas_in) (take_all c.loop-place.place images all);
      short = λ k i at. was.short k i (omega (arith, slice_get_within images k i at, all)) at;
      long = λ is. absurd (ok_no_err is);
      others = tt;
    }
