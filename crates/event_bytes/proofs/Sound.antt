-- The format of events is sound.
use Rattle.std.proofs.Common.{◌≡◌, ℕ, List, ◌++◌, Some, refl}
use Rattle.codec.specs.Formats.{Fits, byte, number4, nothing}
use Rattle.codec.specs.Reading.{IsSound}
use Rattle.codec.proofs.Laws.{nothing_sound, ◌⊗◌, made_again, ◌⊕◌, found, tagged_takes}
use Rattle.codec.proofs.Numbers.{byte_sound, number2_sound, number4_sound, number8_sound}
use Rattle.codec.proofs.Runs.{bytes4_sound}
use Rattle.model.specs.declared.age.Scope.TheVariants as scope
use Rattle.frames.specs.Formats.{sent, known}
use Rattle.msg.specs.Frames.{Plain, data_frame, ack_frame}
use Rattle.frames.proofs.Formats.{reference_grows, sent_sound, known_sound}
use Rattle.event_bytes.specs.Entries.{Entry, alloc, copy, dropped, load, store, clear, word, set_word}
use Rattle.event_bytes.specs.Entries.{set_bytes, patch, give, accept, put, get, post, fetch, resolve, reclaim, begin, scan}
use Rattle.event_bytes.specs.Entries.{pass, sweep, next, received, acknowledged, one, two, placed, loaded}
use Rattle.event_bytes.specs.Entries.{stored, worded, filled, patched, given, asked, posted, fetched, resolved, alloc_at}
use Rattle.event_bytes.specs.Entries.{copy_at, load_at, store_at, clear_at, set_word_at}
use Rattle.event_bytes.specs.Entries.{set_bytes_at, patch_at, give_at, put_at, get_at, post_at, fetch_at, resolve_at, received_at}
use Rattle.event_bytes.specs.Entries.{acknowledged_at, entries, entry}

two_sound : IsSound two
two_sound = number2_sound ⊗ number2_sound

placed_sound : IsSound placed
placed_sound = number2_sound ⊗ byte_sound

loaded_sound : IsSound loaded
loaded_sound = number2_sound ⊗ number2_sound ⊗ byte_sound

stored_sound : IsSound stored
stored_sound = number2_sound ⊗ byte_sound ⊗ number2_sound

worded_sound : IsSound worded
worded_sound = number2_sound ⊗ number8_sound

filled_sound : IsSound filled
filled_sound = number2_sound ⊗ bytes4_sound

patched_sound : IsSound patched
patched_sound = number2_sound ⊗ number4_sound ⊗ bytes4_sound

given_sound : IsSound given
given_sound = byte_sound ⊗ number4_sound ⊗ number2_sound

asked_sound : IsSound asked
asked_sound = number2_sound ⊗ byte_sound ⊗ number4_sound

posted_sound : IsSound posted
posted_sound = byte_sound ⊗ number4_sound ⊗ number2_sound ⊗ byte_sound ⊗ bytes4_sound

fetched_sound : IsSound fetched
fetched_sound = number2_sound ⊗ number4_sound ⊗ number4_sound ⊗ number4_sound

resolved_sound : IsSound resolved
resolved_sound = number2_sound ⊗ reference_grows.second

entry_again : (e : Entry) (rest : List ℕ) → Fits entry e →
    entry.read (entry.spell e ++ rest) ≡ Some (e, rest)
unfolding entry alloc_at copy_at load_at store_at clear_at set_word_at set_bytes_at patch_at
    give_at put_at get_at post_at fetch_at resolve_at received_at acknowledged_at
entry_again (alloc r p) rest fits =
    made_again placed (λ x. alloc x.0 x.1) placed_sound (r, p) rest fits.wide fits.within
entry_again (copy r s) rest fits =
    made_again two (λ x. copy x.0 x.1) two_sound (r, s) rest fits.wide fits.within
entry_again (dropped r) rest fits =
    made_again one dropped number2_sound r rest fits.wide fits.within
entry_again (load r o p) rest fits =
    made_again loaded (λ x. load x.0 x.1.0 x.1.1) loaded_sound (r, (o, p)) rest fits.wide
    fits.within
entry_again (store o p r) rest fits =
    made_again stored (λ x. store x.0 x.1.0 x.1.1) stored_sound (o, (p, r)) rest fits.wide
    fits.within
entry_again (clear o p) rest fits =
    made_again placed (λ x. clear x.0 x.1) placed_sound (o, p) rest fits.wide fits.within
entry_again (word o) rest fits =
    made_again one word number2_sound o rest fits.wide fits.within
entry_again (set_word o v) rest fits =
    made_again worded (λ x. set_word x.0 x.1) worded_sound (o, v) rest fits.wide fits.within
entry_again (set_bytes o b) rest fits =
    made_again filled (λ x. set_bytes x.0 x.1) filled_sound (o, b) rest fits.wide fits.within
entry_again (patch o n b) rest fits =
    made_again patched (λ x. patch x.0 x.1.0 x.1.1) patched_sound (o, (n, b)) rest fits.wide
    fits.within
entry_again (give t l r) rest fits =
    made_again given (λ x. give x.0 x.1.0 x.1.1) given_sound (t, (l, r)) rest fits.wide
    fits.within
entry_again (accept r) rest fits =
    made_again one accept number2_sound r rest fits.wide fits.within
entry_again (put o p r) rest fits =
    made_again stored (λ x. put x.0 x.1.0 x.1.1) stored_sound (o, (p, r)) rest fits.wide
    fits.within
entry_again (get o p l) rest fits =
    made_again asked (λ x. get x.0 x.1.0 x.1.1) asked_sound (o, (p, l)) rest fits.wide
    fits.within
entry_again (post t l r n b) rest fits =
    made_again posted (λ x. post x.0 x.1.0 x.1.1.0 x.1.1.1.0 x.1.1.1.1) posted_sound
    (t, (l, (r, (n, b)))) rest fits.wide fits.within
entry_again (fetch o l n k) rest fits =
    made_again fetched (λ x. fetch x.0 x.1.0 x.1.1.0 x.1.1.1) fetched_sound (o, (l, (n, k))) rest
    fits.wide fits.within
entry_again (resolve k r) rest fits =
    made_again resolved (λ x. resolve x.0 x.1) resolved_sound (k, r) rest fits.wide fits.within
entry_again (reclaim scope.All) rest fits = refl
entry_again (reclaim scope.Young) rest fits = refl
entry_again begin rest fits = refl
entry_again scan rest fits = refl
entry_again pass rest fits = refl
entry_again (sweep n) rest fits =
    made_again number4 sweep number4_sound n rest fits.wide fits.within
entry_again (next f) rest fits =
    made_again byte next byte_sound f rest fits.wide fits.within
entry_again (received f t n s b) rest fits =
    made_again sent (λ x. received x.0.0 x.0.1.0 x.0.1.1 x.1.0 x.1.1) sent_sound
    ((f, (t, n)), (s, b)) rest fits.wide fits.within
entry_again (acknowledged f t n) rest fits =
    made_again known (λ x. acknowledged x.0 x.1.0 x.1.1) known_sound (f, (t, n)) rest fits.wide
    fits.within

pub entry_sound : IsSound entry
unfolding entry alloc_at copy_at load_at store_at clear_at set_word_at set_bytes_at patch_at
    give_at put_at get_at post_at fetch_at resolve_at received_at acknowledged_at
entry_sound = record {
  takes = tagged_takes entry entries (
      found placed entry 1 (λ x. alloc x.0 x.1) placed_sound (λ _. refl) (λ _ w. w) (λ _ w. w)
      ⊕ found two entry 2 (λ x. copy x.0 x.1) two_sound (λ _. refl) (λ _ w. w) (λ _ w. w)
      ⊕ found one entry 3 dropped number2_sound (λ _. refl) (λ _ w. w) (λ _ w. w)
      ⊕ found loaded entry 4 (λ x. load x.0 x.1.0 x.1.1) loaded_sound
      (λ _. refl) (λ _ w. w) (λ _ w. w)
      ⊕ found stored entry 5 (λ x. store x.0 x.1.0 x.1.1) stored_sound
      (λ _. refl) (λ _ w. w) (λ _ w. w)
      ⊕ found placed entry 6 (λ x. clear x.0 x.1) placed_sound (λ _. refl) (λ _ w. w) (λ _ w. w)
      ⊕ found one entry 7 word number2_sound (λ _. refl) (λ _ w. w) (λ _ w. w)
      ⊕ found worded entry 8 (λ x. set_word x.0 x.1) worded_sound
      (λ _. refl) (λ _ w. w) (λ _ w. w)
      ⊕ found given entry 9 (λ x. give x.0 x.1.0 x.1.1) given_sound
      (λ _. refl) (λ _ w. w) (λ _ w. w)
      ⊕ found one entry 10 accept number2_sound (λ _. refl) (λ _ w. w) (λ _ w. w)
      ⊕ found stored entry 11 (λ x. put x.0 x.1.0 x.1.1) stored_sound
      (λ _. refl) (λ _ w. w) (λ _ w. w)
      ⊕ found asked entry 12 (λ x. get x.0 x.1.0 x.1.1) asked_sound
      (λ _. refl) (λ _ w. w) (λ _ w. w)
      ⊕ found nothing entry 13 (λ _. begin) nothing_sound (λ _. refl) (λ _ w. w) (λ _ w. w)
      ⊕ found nothing entry 14 (λ _. scan) nothing_sound (λ _. refl) (λ _ w. w) (λ _ w. w)
      ⊕ found nothing entry 15 (λ _. pass) nothing_sound (λ _. refl) (λ _ w. w) (λ _ w. w)
      ⊕ found number4 entry 16 sweep number4_sound (λ _. refl) (λ _ w. w) (λ _ w. w)
      ⊕ found byte entry 17 next byte_sound (λ _. refl) (λ _ w. w) (λ _ w. w)
      ⊕ found filled entry 18 (λ x. set_bytes x.0 x.1) filled_sound
      (λ _. refl) (λ _ w. w) (λ _ w. w)
      ⊕ found patched entry 19 (λ x. patch x.0 x.1.0 x.1.1) patched_sound
      (λ _. refl) (λ _ w. w) (λ _ w. w)
      ⊕ found nothing entry 20 (λ _. reclaim scope.All) nothing_sound
      (λ _. refl) (λ _ w. w) (λ _ w. w)
      ⊕ found nothing entry 21 (λ _. reclaim scope.Young) nothing_sound
      (λ _. refl) (λ _ w. w) (λ _ w. w)
      ⊕ found posted entry 22 (λ x. post x.0 x.1.0 x.1.1.0 x.1.1.1.0 x.1.1.1.1) posted_sound
      (λ _. refl) (λ _ w. w) (λ _ w. w)
      ⊕ found fetched entry 23 (λ x. fetch x.0 x.1.0 x.1.1.0 x.1.1.1) fetched_sound
      (λ _. refl) (λ _ w. w) (λ _ w. w)
      ⊕ found resolved entry 24 (λ x. resolve x.0 x.1) resolved_sound
      (λ _. refl) (λ _ w. w) (λ _ w. w)
      ⊕ found known entry 0x42 (λ x. acknowledged x.0 x.1.0 x.1.1) known_sound
      (λ _. refl) (λ _ w. w) (λ _ w. w)
      ⊕ found sent entry 0x45 (λ x. received x.0.0 x.0.1.0 x.0.1.1 x.1.0 x.1.1) sent_sound
      (λ _. refl) (λ _ w. w) (λ _ w. w)
      ⊕ tt
      );
  again = entry_again;
}

-- the event that a frame is
abbrev pub of_frame : Plain → Entry
of_frame (data_frame from to number stamp body) = received from to number stamp body
of_frame (ack_frame from to number) = acknowledged from to number
