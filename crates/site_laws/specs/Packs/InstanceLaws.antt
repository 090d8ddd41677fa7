-- What holds of serial numbers and instances in every run.
use Rattle.std.specs.Prelude.{ℕ, ◌≡◌, List}
use Rattle.locus_ids.specs.declared.ids.EpochId.{EpochId}
use Rattle.locus_ids.specs.declared.ids.FileId.{FileId}
use Rattle.locus_ids.specs.declared.ids.Serial.{Serial}
use Rattle.wire_messages.specs.declared.body.Body.{Body}
use Rattle.wire_messages.specs.declared.body.Body.TheVariants as body
use Rattle.wire_messages.specs.declared.body.Opening.{Opening}
use Rattle.role_steps.specs.Views.{Told, serial_key}
use Rattle.the_run.specs.Kept.{Among}
use Rattle.the_run.specs.Worlds.{World, Numbered}
use Rattle.site_laws.specs.Vectors.Written.{WasBegun}

-- the packet asks an open of this file, under this serial number
abbrev pub AsksOpen : ℕ → FileId → Opening → Body → Type 0
AsksOpen serial file how (body.Open number call process request asked opening) = (number ≡ serial) × (asked ≡ file) × (opening ≡ how)
AsksOpen serial file how _ = ⊥

-- two opens that a site asked in one boot under one serial number are of one file, asked in the same way
abbrev pub SerialsAreOnce : World → Type 0
SerialsAreOnce w = (x y : Numbered) (serial : ℕ) (f g : FileId) (h i : Opening) → Among x w.sent → Among y w.sent → x.packet.from ≡ y.packet.from → x.packet.from_boot ≡ y.packet.from_boot →
    AsksOpen serial f h x.packet.body → AsksOpen serial g i y.packet.body → (f ≡ g) × (h ≡ i)

-- the packet asks its receiver to open this instance
abbrev pub AsksInstance : Serial → Body → Type 0
AsksInstance inst (body.OpenSs asked file mode set kind base vector parents) = asked ≡ inst
AsksInstance inst _ = ⊥

-- in an epoch all packets that ask for an instance to be opened go to one storage site
abbrev pub PlacesAreOnce : World → Type 0
PlacesAreOnce w = (x y : Numbered) (a b : Serial) → Among x w.sent → Among y w.sent → x.packet.epoch ≡ y.packet.epoch → serial_key a ≡ serial_key b → AsksInstance a x.packet.body → AsksInstance b y.packet.body → x.packet.to ≡ y.packet.to

-- what was begun under an instance's key in an epoch, wherever and whenever, is one file
abbrev pub BegunOnce : List Told → Type 0
BegunOnce past = (e : EpochId) (key : ℕ) (f g : FileId) → WasBegun past e key f → WasBegun past e key g → f ≡ g
