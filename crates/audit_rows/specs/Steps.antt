-- A release or an operation is a step of one call at most.
use Rattle.std.specs.Prelude.{ℕ, ◌≡◌, ◌≤◌, length, filter, Some}
use Rattle.std.specs.List.{find}
use Rattle.locus_ids.specs.declared.ids.EpochId.{EpochId}
use Rattle.locus_ids.specs.declared.ids.Serial.{Serial}
use Rattle.promises.specs.Past.{Past, Instance, acts, ends, epoch_at, is_named}

-- no two calls end one instance
abbrev pub EndOnce : Past → Type 0
EndOnce p = (e : EpochId) (x : Instance) → length (filter (ends e x) p.calls) ≤ 1

-- no two calls do one operation of the open instance of this name
abbrev pub ActOnce : Past → EpochId → Serial → ℕ → Type 0
ActOnce p e i n = (x : Instance) → find (is_named i) (epoch_at p e).opened ≡ Some x → length (filter (acts e x n) p.calls) ≤ 1
