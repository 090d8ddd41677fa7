-- The serial numbers of opens and the numbers of operations, counted from what processes have taken: no counter needs a tie.
use Rattle.std.specs.Prelude.{ℕ, ◌+◌, ◌==◌, Bool, true, false, ◌&&◌, cond, List, [], ◌∷◌, None}
use Rattle.locus_ids.specs.declared.config.Config.{Config}
use Rattle.locus_ids.specs.declared.ids.CallId.{CallId}
use Rattle.locus_ids.specs.declared.ids.Serial.{Serial}
use Rattle.trace_book.specs.Same.{same_call, same_serial}
use Rattle.trace_book.specs.declared.record.Record.{Record}
use Rattle.trace_book.specs.declared.record.Record.TheVariants as says
use Rattle.call_rules.specs.declared.want.Want.{Want}
use Rattle.call_rules.specs.declared.want.Want.TheVariants as want
use Rattle.the_run.specs.of_role_steps.Views.{Told, Shown, Takes}
use Rattle.the_run.specs.Worlds.{Line}
use Rattle.tree_laws.specs.Printed.{entries}
use Rattle.tree_laws.specs.Calls.{log, script}

-- what the call asks now, whether an answer waits or not
abbrev pub asked_now : Config → List Line → CallId → Want
asked_now c trace d = script c (entries trace) d None (log trace d)

abbrev pub is_open_want : Want → Bool
is_open_want (want.Open file how) = true
is_open_want (want.OpenToMend file) = true
is_open_want (want.Make group kind sites) = true
is_open_want _ = false

abbrev pub is_op_on : Serial → Want → Bool
is_op_on i (want.Do inst o) = same_serial inst i
is_op_on i _ = false

-- ---- opens ----

-- a site counts an open where a call of its has just been accepted, or has just taken an answer, and asks one
abbrev pub opens_record : Config → List Line → Record → ℕ → ℕ → ℕ
opens_record c now (says.Accept s process call words) site old = cond ((s == site) && is_open_want (asked_now c now call)) (old + 1) old
opens_record c now (says.Up s boot) site old = cond (s == site) 0 old
opens_record c now _ site old = old

abbrev pub opens_told : Config → List Line → Told → ℕ → ℕ → ℕ
opens_told c now (Shown r) site old = opens_record c now r site old
opens_told c now (Takes s call request k a) site old = cond ((s == site) && is_open_want (asked_now c now call)) (old + 1) old
opens_told c now _ site old = old

-- how many opens a site has asked in its boot
abbrev pub opens_asked : Config → List Line → ℕ → ℕ
opens_asked c [] site = 0
opens_asked c (x ∷ older) site = opens_told c (x ∷ older) x.told site (opens_asked c older site)

abbrev pub serial_record : Config → List Line → Record → CallId → ℕ → ℕ
serial_record c now (says.Accept s process call words) d old = cond (same_call call d) (opens_asked c now s) old
serial_record c now _ d old = old

abbrev pub serial_told : Config → List Line → Told → CallId → ℕ → ℕ
serial_told c now (Shown r) d old = serial_record c now r d old
serial_told c now (Takes s call request k a) d old = cond (same_call call d) (opens_asked c now s) old
serial_told c now _ d old = old

-- the serial number of the open that the call asks now: the site's count when it began to ask it
abbrev pub serial_asked : Config → List Line → CallId → ℕ
serial_asked c [] d = 0
serial_asked c (x ∷ older) d = serial_told c (x ∷ older) x.told d (serial_asked c older d)

-- ---- operations ----

abbrev pub ops_record : Config → List Line → Record → Serial → ℕ → ℕ
ops_record c now (says.Accept s process call words) i old = cond ((s == i.us) && is_op_on i (asked_now c now call)) (old + 1) old
ops_record c now (says.Up s boot) i old = cond (s == i.us) 0 old
ops_record c now _ i old = old

abbrev pub ops_told : Config → List Line → Told → Serial → ℕ → ℕ
ops_told c now (Shown r) i old = ops_record c now r i old
ops_told c now (Takes s call request k a) i old = cond ((s == i.us) && is_op_on i (asked_now c now call)) (old + 1) old
ops_told c now _ i old = old

-- how many operations the using site of the instance has asked of it
abbrev pub ops_asked : Config → List Line → Serial → ℕ
ops_asked c [] i = 0
ops_asked c (x ∷ older) i = ops_told c (x ∷ older) x.told i (ops_asked c older i)
