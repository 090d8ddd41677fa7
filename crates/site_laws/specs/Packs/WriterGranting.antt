-- What the grants of an epoch have in common, and which stand side by side.
use Rattle.std.specs.Prelude.{ℕ, ◌≡◌, ◌⊎◌, true, List}
use Rattle.locus_ids.specs.declared.ids.EpochId.{EpochId}
use Rattle.locus_ids.specs.declared.ids.FileId.{FileId}
use Rattle.locus_ids.specs.declared.ids.Mode.{Mode}
use Rattle.commit_graph.specs.Grants.{is_read}
use Rattle.trace_book.specs.declared.record.Record.{Record}
use Rattle.trace_book.specs.declared.record.Record.TheVariants as says
use Rattle.wire_messages.specs.declared.packet.Packet.{Packet}
use Rattle.wire_messages.specs.declared.body.Body.{Body}
use Rattle.wire_messages.specs.declared.body.Body.TheVariants as body
use Rattle.role_steps.specs.Views.{Told, Shown, serial_key}
use Rattle.the_run.specs.Kept.{Among}
use Rattle.the_run.specs.Worlds.{Numbered}
use Rattle.site_laws.specs.Vectors.Written.{WasTold}
use Rattle.site_laws.specs.Locks.Going.{WasBegunAt}
use Rattle.site_laws.specs.Locks.Locks.{IsOfAFile}
use Rattle.site_laws.specs.Locks.Grants.{WasGrantedAs, IsOver}

-- all grants under one key in an epoch are of one file, in one mode
abbrev pub GrantsAreAlike : List Told → Type 0
GrantsAreAlike past = (e : EpochId) (key : ℕ) (f g : FileId) (m n : Mode) → WasGrantedAs past e key f m → WasGrantedAs past e key g n → (f ≡ g) × (m ≡ n)

-- of two grants of one file in an epoch under two keys, makes apart, both only read, or one of them is over
abbrev pub GrantsAreApart : List Told → Type 0
GrantsAreApart past = (e : EpochId) (file : FileId) (j k : ℕ) (m n : Mode) → (j ≡ k → ⊥) → IsOfAFile m → IsOfAFile n → WasGrantedAs past e j file m → WasGrantedAs past e k file n →
    ((is_read m ≡ true) × (is_read n ≡ true)) ⊎ (IsOver past e j ⊎ IsOver past e k)

-- ---- where ----

-- the open was granted under this key at this storage site, and is no make
abbrev pub GrantedThereRecord : EpochId → ℕ → ℕ → Record → Type 0
GrantedThereRecord e key ss (says.Grant at call request inst m file stamp there) = (at ≡ e) × (serial_key inst ≡ key) × (there ≡ ss) × IsOfAFile m
GrantedThereRecord e key ss _ = ⊥

abbrev pub GrantedThere : EpochId → ℕ → ℕ → Told → Type 0
GrantedThere e key ss (Shown r) = GrantedThereRecord e key ss r
GrantedThere e key ss _ = ⊥

-- the storage site that a grant names is the one that begins the instance, makes apart
abbrev pub GrantsNameTheirSite : List Told → Type 0
GrantsNameTheirSite past = (e : EpochId) (key s ss : ℕ) (file : FileId) → WasBegunAt past s e key file → WasTold (GrantedThere e key ss) past → s ≡ ss

-- ---- what carries it ----

-- by the epoch, the key and the storage site, which opens were sent on to it
abbrev pub Places : Type 1
Places = EpochId → ℕ → ℕ → Type 0

abbrev pub NotedBody : Places → EpochId → ℕ → Body → Type 0
NotedBody P e to (body.OpenSs inst file m set kind base vector parents) = P e (serial_key inst) to
NotedBody P e to _ = Unit {0}

-- the opens that are sent on are counted among them
abbrev pub Noted : Places → Packet → Type 0
Noted P p = NotedBody P p.epoch p.to p.body

-- a plain grant is of an open that was sent on to the site that it names
abbrev pub PlacedRecord : Places → Record → Type 0
PlacedRecord P (says.Grant e call request inst m file stamp ss) = IsOfAFile m → P e (serial_key inst) ss
PlacedRecord P _ = Unit {0}

abbrev pub PlacedTold : Places → Told → Type 0
PlacedTold P (Shown r) = PlacedRecord P r
PlacedTold P _ = Unit {0}

abbrev pub AsksKey : ℕ → Body → Type 0
AsksKey key (body.OpenSs inst file m set kind base vector parents) = serial_key inst ≡ key
AsksKey key _ = ⊥

pub record IsPlaced (packets : List Numbered) (e : EpochId) (key ss : ℕ) : Type 0 where
  pub opening : Numbered
  pub was_sent : Among opening packets
  pub epoch_is : opening.packet.epoch ≡ e
  pub to_is : opening.packet.to ≡ ss
  pub asks : AsksKey key opening.packet.body
