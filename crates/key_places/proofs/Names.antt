-- The keys of two names are equal exactly where the names are.
use Rattle.std.proofs.Common.{ℕ, ◌≡◌, refl, Bool, true, false, ◌&&◌, ◌==◌}
use Rattle.std.proofs.Math.Bool.{and-true}
use Rattle.locus_ids.specs.declared.ids.FileId.{FileId}
use Rattle.locus_ids.specs.declared.ids.Serial.{Serial}
use Rattle.locus_ids.specs.declared.ids.Stamp.{Stamp}
use Rattle.locus_ids.specs.declared.ids.CallId.{CallId}
use Rattle.locus_ids.specs.declared.ids.EpochId.{EpochId}
use Rattle.key_places.specs.Keys.{same_key, call_key, epoch_key, serial_key, file_key, version_key, number_key}

three : (x y z : Bool) → x && (y && (z && true)) ≡ (x && y && z)
three false y z = refl
three true false z = refl
three true true z = and-true z

two : (x y : Bool) → x && (y && true) ≡ (x && y)
two false y = refl
two true y = and-true y

four : (x y z w : Bool) → x && (y && (z && w)) ≡ (x && y) && (z && w)
four false y z w = refl
four true y z w = refl

pub call_names : (a b : CallId) → same_key (call_key a) (call_key b) ≡ ((a.site == b.site) && (a.boot == b.boot) && (a.n == b.n))
call_names a b = three (a.site == b.site) (a.boot == b.boot) (a.n == b.n)

pub epoch_names : (a b : EpochId) → same_key (epoch_key a) (epoch_key b) ≡ ((a.number == b.number) && (a.site == b.site) && (a.boot == b.boot))
epoch_names a b = three (a.number == b.number) (a.site == b.site) (a.boot == b.boot)

pub serial_names : (a b : Serial) → same_key (serial_key a) (serial_key b) ≡ ((a.us == b.us) && (a.serial == b.serial))
serial_names a b = two (a.us == b.us) (a.serial == b.serial)

pub file_names : (a b : FileId) → same_key (file_key a) (file_key b) ≡ ((a.group == b.group) && (a.ino == b.ino))
file_names a b = two (a.group == b.group) (a.ino == b.ino)

pub version_names : (f g : FileId) (a b : Stamp) → same_key (version_key f a) (version_key g b) ≡ (((f.group == g.group) && (f.ino == g.ino)) && ((a.site == b.site) && (a.n == b.n)))
version_names f g a b = four (f.group == g.group) (f.ino == g.ino) (a.site == b.site) (a.n == b.n)

pub number_names : (m n : ℕ) → same_key (number_key m) (number_key n) ≡ (m == n)
number_names m n = and-true (m == n)
