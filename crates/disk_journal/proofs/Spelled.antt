-- What is written for a value: its image, and what is behind it.
use Rattle.std.proofs.Common.{◌≡◌, ℕ, ◌+◌, ◌-◌, ◌≤◌, Bool, true, false, List, [], ◌∷◌, ◌++◌, length, take, drop}
use Rattle.std.proofs.Common.{sym, ◌∙◌, ap, arith, length-append, subst}
use Rattle.std.proofs.lemmas.List.{append_assoc, append-nil, drop_at}
use Rattle.disk_shelf.specs.Logs.{IsShut, IsSpelled}
use Rattle.disk_shelf.specs.Seals.{behind}
use Rattle.disk_shelf.specs.Shelf.{record_of}
use Rattle.disk_shelf.proofs.Records.{image_seen, record_length, text_long}

pub shut_length : (image : List ℕ) {bytes : List ℕ} → bytes ≡ record_of image ++ 0 ∷ [] →
    length bytes ≡ 9 + length image
shut_length image is =
    omega (arith, ap length is, length-append (record_of image) (0 ∷ []), record_length image)

-- the same with more bytes behind the gate
pub shut_more : (image rest : List ℕ) {bytes all : List ℕ} → bytes ≡ record_of image ++ 0 ∷ [] →
    all ≡ bytes ++ rest → IsShut image all
shut_more image rest {bytes} {all} is whole =
    let front = record_of image ++ 0 ∷ [] in
    let both : all ≡ front ++ rest = whole ∙ ap (λ l. l ++ rest) is in
    let size : length front ≡ 9 + length image =
    omega (arith, length-append (record_of image) (0 ∷ []), record_length image) in
    let behind : drop (9 + length image) all ≡ rest =
    ap (drop (9 + length image)) both ∙ drop_at front rest (9 + length image) size in
    both ∙ append_assoc (record_of image) (0 ∷ []) rest
    ∙ ap (λ l. record_of image ++ 0 ∷ l) (sym behind)

pub shut_alone : (image : List ℕ) {bytes : List ℕ} → bytes ≡ record_of image ++ 0 ∷ [] →
    IsShut image bytes
shut_alone image {bytes} is = shut_more image [] is (sym (append-nil bytes))

-- an image, what is written for it, as bytes and as a slice, and the offset at which it ends there
pub record Spelled (logged seals : Bool) (image : List ℕ) (end : ℕ) (bytes text : List ℕ) : Type 0
  where
    pub seen : text ≡ bytes
    pub spelled : IsSpelled logged seals image bytes
    pub ends : end ≡ 8 + length image

module _ {logged seals : Bool} {image : List ℕ} {end : ℕ} {bytes text : List ℕ}
    (it : Spelled logged seals image end bytes text) where
  more : (rest : List ℕ) × (bytes ≡ record_of image ++ rest)
  more = by logged it.spelled
    where
      by : (b : Bool) → IsSpelled b seals image bytes →
          (rest : List ℕ) × (bytes ≡ record_of image ++ rest)
      by true is = (0 ∷ drop (9 + length image) bytes, is)
      by false is = (behind seals image, is)

  pub spelled_long : (8 ≤ end) × (end ≤ length text)
  spelled_long = text_long image more.0 it.seen more.1 it.ends

  -- the image in it
  pub spelled_image : {part : List ℕ} → part ≡ take (end - 8) (drop 8 text) → part ≡ image
  spelled_image here = image_seen image more.0 end it.seen more.1 it.ends here

  pub spelled_again : {part again : List ℕ} → again ≡ bytes →
      part ≡ take (end - 8) (drop 8 text) → IsSpelled logged seals part again
  spelled_again {again = again} other here =
      subst (λ i. IsSpelled logged seals i again) (sym (spelled_image here))
      (subst (IsSpelled logged seals image) (sym other) it.spelled)
