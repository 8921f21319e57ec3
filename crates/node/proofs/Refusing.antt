-- If the heap refuses an event, so does its node.
use Rattle.std.proofs.Common.{◌≡◌, ℕ, List, length, false, None, Err, refl, map}
use Rattle.std.specs.Borrow.{Bor}
use Rattle.ids.specs.declared.refusal.Refusal.{Refusal}
use Rattle.model.specs.declared.event.Event.TheVariants as event
use Rattle.model.specs.Checks.{IsFirstRefusal, by_test, by_memory}
use Rattle.model.specs.State.{register_at}
use Rattle.model.specs.Heaps.{heap_store, heap_clear, named, store_tests, clear_tests, with_place, with_rewritten, filling, patching}
use Rattle.model.specs.Heaps.{heap_set_bytes, set_bytes_tests, heap_patch, patch_tests}
use Rattle.model.specs.View.{NodeView, view_act, used}
use Rattle.node.proofs.Events.{test_refused, tests_passed}
use Rattle.model.specs.Steps.{made}

module _ (n : NodeView) (object place register : ℕ) (e : Refusal) where
  pub store_refused : heap_store n.local.own n.local.heap object place register ≡ Err e
      → IsFirstRefusal false e (view_act n (event.Store object place register))
  unfolding view_act heap_store
  store_refused h =
      let p = n.local in
      let ts = store_tests p.own p.heap object place register in
      let new = with_place p.own p.heap (named p.heap object) place (register_at p.heap register) in
      test_refused n ts (made p (map used n.links) (event.Store object place register)) new e refl h

module _ (n : NodeView) (object place : ℕ) (e : Refusal) where
  pub clear_refused : heap_clear n.local.own n.local.heap object place ≡ Err e
      → IsFirstRefusal false e (view_act n (event.Clear object place))
  unfolding view_act heap_clear
  clear_refused h =
      let p = n.local in
      let ts = clear_tests p.own p.heap object place in
      let new = with_place p.own p.heap (named p.heap object) place None in
      test_refused n ts (made p (map used n.links) (event.Clear object place)) new e refl h

module _ (n : NodeView) (object : ℕ) (bytes : Bor (List ℕ)) (e : Refusal) where
  pub set_bytes_refused : IsFirstRefusal false e
      (heap_set_bytes n.local.shape n.local.own n.local.heap object bytes.now)
      → IsFirstRefusal false e (view_act n (event.SetBytes object bytes))
  unfolding view_act heap_set_bytes
  set_bytes_refused (by_test other h) =
      let p = n.local in
      let ts = set_bytes_tests p.shape p.own p.heap object (length bytes.now) in
      let new = with_rewritten p.heap (named p.heap object) (filling bytes.now) in
      test_refused n ts (made p (map used n.links) (event.SetBytes object bytes)) new e refl h
  set_bytes_refused (by_memory memory is) =
      let p = n.local in
      let ts = set_bytes_tests p.shape p.own p.heap object (length bytes.now) in
      let new = with_rewritten p.heap (named p.heap object) (filling bytes.now) in
      by_memory memory
      (tests_passed n ts (made p (map used n.links) (event.SetBytes object bytes)) new refl is)

  pub patch_refused : (offset : ℕ)
      → heap_patch n.local.shape n.local.own n.local.heap object offset bytes.now ≡ Err e
      → IsFirstRefusal false e (view_act n (event.Patch object offset bytes))
  unfolding view_act heap_patch
  patch_refused offset h =
      let p = n.local in
      let ts = patch_tests p.shape p.own p.heap object offset (length bytes.now) in
      let new = with_rewritten p.heap (named p.heap object) (patching offset bytes.now) in
      test_refused n ts (made p (map used n.links) (event.Patch object offset bytes)) new e refl h
