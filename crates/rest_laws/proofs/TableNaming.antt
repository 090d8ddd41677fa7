-- The row of a table under the key of an instance is the row of that instance: instances are of some of the sixteen sites.
use Rattle.std.proofs.Common.{◌≡◌, ℕ, ◌+◌, ◌*◌, ◌≤◌, List, Some, sym, subst, ◌⊎◌, inl, inr, arith}
use Rattle.locus_ids.specs.declared.config.Config.{Config}
use Rattle.locus_ids.specs.declared.ids.CallId.{CallId}
use Rattle.locus_ids.specs.declared.ids.EpochId.{EpochId}
use Rattle.locus_ids.specs.declared.ids.Serial.{Serial}
use Rattle.locus_ids.specs.Sizes.{sites_max}
use Rattle.role_steps.specs.Opens.{open_key, open_row}
use Rattle.role_steps.specs.Views.{Frame, serial_key}
use Rattle.role_steps.specs.declared.synchronizing.OpenRow.{OpenRow}
use Rattle.role_steps.specs.declared.synchronizing.SyncTable.{SyncTable}
use Rattle.the_run.specs.Worlds.{Line}
use Rattle.tree_model.specs.declared.instance.Instance.{Instance}
use Rattle.lawful_trace.specs.TreeRows.{IsCallIn}
use Rattle.tree_laws.specs.Instances.{instance_now}
use Rattle.tree_laws.specs.Past.{WasNamed, WasReleased}
use Rattle.tree_laws.specs.Printed.{entries}
use Rattle.tree_laws.specs.Tables.{RowFact}
use Rattle.tree_laws.proofs.Grants.{open_named}
use Rattle.store_laws.proofs.Holdings.Released.{released_named}
use Rattle.store_laws.proofs.Begun.{named_of}
use Rattle.store_laws.proofs.of_tree_laws.Syncs.Rows.{row_key_is}
use Rattle.store_laws.specs.OneTree.Rest.{Past}
use Rattle.rest_laws.specs.TableNarrow.{CallsAreNarrow}

serial_same : (a b : Serial) → a.us ≤ sites_max → b.us ≤ sites_max → serial_key a ≡ serial_key b → a ≡ b
serial_same a b low small e = λ i. record { us = us_is i; serial = serial_is i }
  where
    number : a.serial * 256 + a.us ≡ b.serial * 256 + b.us
    number = e

    us_is : a.us ≡ b.us
    us_is = omega (arith, low, small, number)

    serial_is : a.serial ≡ b.serial
    serial_is = omega (arith, low, small, number)

pub call_low : (c : Config) → CallsAreNarrow c → (trace : List Line) → Past c trace → (e : EpochId) (d : CallId) (i : Serial) → i.us ≡ d.site → IsCallIn (entries trace) e d → i.us ≤ sites_max
call_low c narrow trace past e d i us k = subst (λ (s : ℕ). s ≤ sites_max) (sym us) (narrow.sites trace past d k.accepted k.named)

pub named_low : (c : Config) → CallsAreNarrow c → (trace : List Line) → Past c trace → (e : EpochId) (i : Serial) → WasNamed trace e i → i.us ≤ sites_max
named_low c narrow trace past e i w = (let k : (d : CallId) × (i.us ≡ d.site) × IsCallIn (entries trace) e d = named_of c trace past.followed e i w in call_low c narrow trace past e k.0 i k.1 k.2)

-- the row under the key of an instance of one of the sixteen sites is its own
pub row_of : (c : Config) → CallsAreNarrow c → (trace : List Line) (f : Frame) (t : SyncTable) → Past c trace → (r : OpenRow) → RowFact c trace f.epoch t.group r → (i : Serial) → open_row t i ≡ Some r → i.us ≤ sites_max → r.inst ≡ i
row_of c narrow trace f t past r fact i found low = serial_same r.inst i (subst (λ (s : ℕ). s ≤ sites_max) fact.is_call.site_is (narrow.sites trace past fact.call fact.is_call.caller fact.is_call.named)) low (row_key_is open_key (serial_key i) t.opens r found)

-- so it is of an instance that was released, or is open
pub row_is : (c : Config) → CallsAreNarrow c → (trace : List Line) (f : Frame) (t : SyncTable) → Past c trace → (r : OpenRow) → RowFact c trace f.epoch t.group r → (i : Serial) → open_row t i ≡ Some r → WasReleased trace f.epoch i ⊎ ((at : Instance) × (instance_now c trace f.epoch i ≡ Some at)) → r.inst ≡ i
row_is c narrow trace f t past r fact i found k = row_of c narrow trace f t past r fact i found (named_low c narrow trace past f.epoch i (named k))
  where
    named : WasReleased trace f.epoch i ⊎ ((at : Instance) × (instance_now c trace f.epoch i ≡ Some at)) → WasNamed trace f.epoch i
    named (inl w) = released_named c trace past.followed f.epoch i w
    named (inr k) = open_named c trace f.epoch i k.0 k.1
