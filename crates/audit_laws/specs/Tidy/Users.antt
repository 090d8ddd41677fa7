-- Who uses and closes an open instance, in the past of consistent records.
use Rattle.std.specs.Prelude.{ℕ, zero, suc, ◌≡◌, ◌+◌, ◌≤◌, ◌==◌, ◌&&◌, not, Bool, true, cond, List, [], ◌∷◌, ◌++◌, length, filter, map, sum_by, Some}
use Rattle.std.specs.List.{list_any, AllByRecursion}
use Rattle.locus_ids.specs.declared.ids.CallId.{CallId}
use Rattle.locus_ids.specs.declared.ids.EpochId.{EpochId}
use Rattle.locus_ids.specs.declared.ids.Serial.{Serial}
use Rattle.trace_book.specs.Same.{same_epoch, same_serial}
use Rattle.trace_book.specs.declared.descriptor.Descriptor.{Descriptor}
use Rattle.promises.specs.Past.{Past, Site, Epoch, CallSoFar, Instance, Named, is_on, is_close}
use Rattle.promises.specs.After.{is_id}

-- the call uses the instance by a descriptor
abbrev pub is_use : EpochId → Serial → CallSoFar → Bool
is_use e i k = is_on k.begins e i && not (is_close k.words)

-- or closes it
abbrev pub is_closing : EpochId → Serial → CallSoFar → Bool
is_closing e i k = is_on k.begins e i && is_close k.words

-- the numbers from n down to 1
abbrev pub down_from : ℕ → List ℕ
down_from zero = []
down_from (suc n) = suc n ∷ down_from n

-- a read that has opened a version again has the first turn
abbrev pub first_turn : Instance → List ℕ
first_turn x = cond x.again (1 ∷ []) []

-- the calls that use an open instance have the turns 1, 2, .. in the order in which they came, with that read as many as it counts
abbrev pub HasTurns : List CallSoFar → EpochId → Instance → Type 0
HasTurns calls e x = map (λ (k : CallSoFar). k.turn) (filter (is_use e x.grant.inst) calls) ++ first_turn x ≡ down_from x.uses

-- the call of this name waits no more
abbrev pub is_over : CallId → CallSoFar → Bool
is_over id k = is_id id k && not k.waits

-- by the reply of the call that it was granted to a descriptor names an instance, and only so; a read that has opened it again is such a call
pub record NamedSo (calls : List CallSoFar) (x : Instance) : Type 0 where
  pub over : x.named ≡ true → list_any (is_over x.grant.call) calls ≡ true
  pub again : x.again ≡ true → x.named ≡ true

-- the descriptor is one of the instance
abbrev pub describes : EpochId → Serial → Named → Bool
describes e i d = same_epoch d.names.epoch e && same_serial d.names.inst i

-- it is this number of the process
abbrev pub is_fd : ℕ → ℕ → Named → Bool
is_fd process fd d = (d.process == process) && (d.fd == fd)

-- how many numbers of processes stand for the instance
abbrev pub numbers : EpochId → Serial → List Named → ℕ
numbers e i [] = 0
numbers e i (d ∷ ds) = cond (describes e i d && not (list_any (λ x. describes e i x && is_fd d.process d.fd x) ds)) (suc (numbers e i ds)) (numbers e i ds)

-- how many do at the sites, and how many calls closed it
abbrev pub described : EpochId → Serial → List Site → ℕ
described e i sites = sum_by (λ (s : Site). numbers e i s.descriptors) sites

abbrev pub handles : EpochId → Serial → Past → ℕ
handles e i p = length (filter (is_closing e i) p.calls) + described e i p.sites

-- what was granted to a call that waits has none yet
abbrev pub IsUnhandled : Past → CallSoFar → Type 0
IsUnhandled p k = k.waits ≡ true → (d : Descriptor) → k.granted ≡ Some d → handles d.epoch d.inst p ≡ 0

pub record UsersStand (p : Past) : Type 0 where
  pub named : AllByRecursion (λ (t : Epoch). AllByRecursion (NamedSo p.calls) t.opened) p.epochs
  pub turns : AllByRecursion (λ (t : Epoch). AllByRecursion (HasTurns p.calls t.id) t.opened) p.epochs
  -- one number stands for an instance, or one call closed it
  pub one : (e : EpochId) (i : Serial) → handles e i p ≤ 1
  pub unhandled : AllByRecursion (IsUnhandled p) p.calls
