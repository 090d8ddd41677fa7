-- What a call has of instances: what it uses by a descriptor, what its opens were answered, and no more what it has closed.
use Rattle.std.specs.Prelude.{◌≡◌, Bool, true, false, not, ◌&&◌, ◌||◌, cond, List, [], ◌∷◌, Option, None, Some}
use Rattle.locus_ids.specs.declared.config.Config.{Config}
use Rattle.locus_ids.specs.declared.ids.CallId.{CallId}
use Rattle.locus_ids.specs.declared.ids.Serial.{Serial}
use Rattle.trace_book.specs.Same.{same_call, same_serial}
use Rattle.trace_book.specs.declared.descriptor.Beginning.{Beginning}
use Rattle.trace_book.specs.declared.descriptor.Beginning.TheVariants as begins
use Rattle.call_rules.specs.declared.answer.Answer.{Answer}
use Rattle.call_rules.specs.declared.answer.Answer.TheVariants as answer
use Rattle.call_rules.specs.declared.want.Want.{Want}
use Rattle.call_rules.specs.declared.want.Want.TheVariants as want
use Rattle.the_run.specs.of_role_steps.Views.{Told, Takes}
use Rattle.the_run.specs.Worlds.{Line}
use Rattle.lawful_trace.specs.Tables.{begun}
use Rattle.tree_laws.specs.Printed.{entries}
use Rattle.tree_laws.specs.Serials.{asked_now}

-- which instances a call has, of all
abbrev pub Instances : Type 0
Instances = Serial → Bool

-- the call begins at an instance
abbrev pub begun_with : Beginning → Instances
begun_with (begins.Uses e inst) i = same_serial inst i
begun_with _ i = false

abbrev pub with_begun : Option Beginning → Instances
with_begun None i = false
with_begun (Some b) i = begun_with b i

-- an answered open brings an instance, and an answered close takes it away
abbrev pub closed_by : Want → Instances → Instances
closed_by (want.Close inst) old i = not (same_serial inst i) && old i
closed_by _ old i = old i

abbrev pub had_after : Want → Answer → Instances → Instances
had_after w (answer.Opened inst ino) old i = same_serial inst i || old i
had_after w (answer.Reading inst version) old i = same_serial inst i || old i
had_after w (answer.Merging inst kept) old i = same_serial inst i || old i
had_after w _ old i = closed_by w old i

abbrev pub has_told : Config → List Line → Told → CallId → Instances → Instances
has_told c older (Takes s d request times a) call old i = cond (same_call d call) (had_after (asked_now c older d) a old i) (old i)
has_told c older _ call old i = old i

-- what the call has taken and not closed since
abbrev pub has_taken : Config → List Line → CallId → Instances → Instances
has_taken c [] d first i = first i
has_taken c (x ∷ older) d first i = has_told c older x.told d (has_taken c older d first) i

-- the instances that the call has
abbrev pub has_instances : Config → List Line → CallId → Instances
has_instances c trace d i = has_taken c trace d (with_begun (begun (entries trace) d)) i

-- what is asked of an instance is asked of one of these
abbrev pub IsOf : Instances → Want → Type 0
IsOf own (want.Do i o) = own i ≡ true
IsOf own (want.Close i) = own i ≡ true
IsOf own _ = Unit {0}
