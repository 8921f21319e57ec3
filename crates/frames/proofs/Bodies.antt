-- Bodies that only wide spaces have are read after those that every space has.
use Rattle.std.proofs.Common.{◌≡◌, ◌≢◌, ℕ, ◌==◌, true, cond, List, [], ◌∷◌, ◌++◌, Option}
use Rattle.std.proofs.Common.{Some, None, refl, ap, ◌∙◌}
use Rattle.std.proofs.lemmas.Bool.{ne_eqb}
use Rattle.codec.specs.Formats as codec
use Rattle.codec.specs.Formats.{behind, ◌>>=◌}
use Rattle.codec.specs.declared.reader.Reader.{Reader}
use Rattle.codec.specs.Readers.{left, Takes}
use Rattle.msg.specs.declared.body.Body.{Body}
use Rattle.frames.specs.declared.version.Version.{Version}
use Rattle.frames.specs.Formats.{bodies, plain_bodies, wide_bodies, post_at, fetch_at}

-- none of the others
behind_front : {A : Type 0} (xs ys : List (ℕ × codec.Reader A)) (t : ℕ) (bytes : List ℕ)
    → behind ys t bytes ≡ None → behind (xs ++ ys) t bytes ≡ behind xs t bytes
behind_front [] ys t bytes none = none
behind_front (x ∷ xs) ys t bytes none =
    ap (cond (t == x.0) (x.1 bytes)) (behind_front xs ys t bytes none)

same_taken : {A : Type 0} {r s : codec.Reader A} {a b : Reader} {o : Option A}
    → ((bytes : List ℕ) → r bytes ≡ s bytes) → Takes s a b o → Takes r a b o
same_taken {r = r} {s = s} {a = a} same took = record { is = by (left a) ∙ took.is } where
  by : (o : Option (List ℕ)) → (o >>= r) ≡ (o >>= s)
  by None = refl
  by (Some bytes) = same bytes

-- a tag that every space has, or that no space has
pub plain_tag : (v : Version) {t : ℕ} {a b : Reader} {o : Option Body} → t ≢ 9 → t ≢ 10
    → Takes (behind (plain_bodies v) t) a b o → Takes (behind (bodies true v) t) a b o
plain_tag v {t} nine ten took =
    same_taken (λ bytes. behind_front (plain_bodies v) (wide_bodies v) t bytes
    (rw (ne_eqb t 9 nine, ne_eqb t 10 ten) refl)) took

pub post_tag : (v : Version) {t : ℕ} {a b : Reader} {o : Option Body} → t ≡ 9
    → Takes (post_at v) a b o → Takes (behind (bodies true v) t) a b o
post_tag v is took = rw is took

pub fetch_tag : (v : Version) {t : ℕ} {a b : Reader} {o : Option Body} → t ≡ 10
    → Takes (fetch_at v) a b o → Takes (behind (bodies true v) t) a b o
fetch_tag v is took = rw is took

pub ruleset wide_tags = (plain_tag, post_tag, fetch_tag)
