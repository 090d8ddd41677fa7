-- What the table of calls keeps beside its rows, which stand in the order in which the calls were accepted.
use Rattle.std.specs.Prelude.{◌≡◌, List, map, reverse}
use Rattle.key_places.specs.declared.key.Key.{Key}
use Rattle.key_places.specs.Keys.{call_key}
use Rattle.promises.specs.Past.{CallSoFar}
use Rattle.audit_calls.specs.Uses.{use_key}
use Rattle.audit_calls.specs.Waiting.{waiting_from}
use Rattle.audit_calls.specs.declared.waiting.WaitingRow.{WaitingRow}

abbrev pub id_key : CallSoFar → Key
id_key k = call_key k.id

-- both indexes have the keys of all calls, the newest first, and the calls that wait stand in their order
pub record Indexed (rows : List CallSoFar) (ids uses : List Key) (waiting : List WaitingRow) : Type 0 where
  pub ids_are : ids ≡ map id_key (reverse rows)
  pub uses_are : uses ≡ map use_key (reverse rows)
  pub waiting_are : waiting ≡ waiting_from 0 rows
