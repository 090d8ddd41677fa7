-- Where an epoch stands among all, by its name.
use Rattle.std.specs.Prelude.{ℕ, Bool, ◌&&◌, List, map, Option, None, Some}
use Rattle.std.specs.List.{find, list_any}
use Rattle.std.specs.Option.{option_map}
use Rattle.locus_ids.specs.declared.ids.EpochId.{EpochId}
use Rattle.locus_ids.specs.declared.ids.Serial.{Serial}
use Rattle.trace_book.specs.declared.call.Call.{Call}
use Rattle.trace_book.specs.declared.descriptor.Beginning.{Beginning}
use Rattle.role_steps.specs.of_file_effects.declared.work.Work.{Work}
use Rattle.key_places.specs.declared.key.Key.{Key}
use Rattle.key_places.specs.Keys.{epoch_key}
use Rattle.key_places.specs.Places.{place_of}
use Rattle.promises.specs.Past.{Epoch, Instance, is_named}
use Rattle.promises.specs.After.{is_epoch}
use Rattle.audit_epochs.specs.Changes.{turn_in}

abbrev pub keys_of : List Epoch → List Key
keys_of ts = map (λ (t : Epoch). epoch_key t.id) ts

abbrev pub place_in : EpochId → List Epoch → Option ℕ
place_in e ts = place_of (epoch_key e) (keys_of ts)

-- of the epoch that a site is in, where it is in one
abbrev pub place_home : Option EpochId → List Epoch → Option ℕ
place_home None ts = None
place_home (Some e) ts = place_in e ts

-- the epoch has an open instance of this name
abbrev pub has_open : EpochId → Serial → List Epoch → Bool
has_open e i ts = list_any (λ (t : Epoch). is_epoch e t && list_any (is_named i) t.opened) ts

-- what has become of an open instance of the epoch
abbrev pub work_of : Serial → Option Epoch → Option Work
work_of i None = None
work_of i (Some t) = option_map (λ (x : Instance). x.work) (find (is_named i) t.opened)

-- which use of its instance a call is that begins so in this epoch
abbrev pub turn_at : Beginning → Call → Option Epoch → ℕ
turn_at begins words None = 0
turn_at begins words (Some t) = turn_in begins words t
