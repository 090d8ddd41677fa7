-- Who tells what: a table of an epoch, a store of a site, or neither of them.
use Rattle.std.proofs.Common.{◌≡◌, ℕ, List}
use Rattle.locus_ids.specs.declared.ids.EpochId.{EpochId}
use Rattle.trace_book.specs.declared.record.Record.{Record}
use Rattle.trace_book.specs.declared.record.Record.TheVariants as says
use Rattle.wire_messages.specs.declared.packet.Packet.{Packet}
use Rattle.wire_messages.specs.declared.body.Body.{Body}
use Rattle.wire_messages.specs.declared.body.Body.TheVariants as body
use Rattle.role_steps.specs.Own.{Every}
use Rattle.role_steps.specs.Views.{Told, Shown, Begins, Shuts, Reserves}
use Rattle.the_run.proofs.Boots.{every_weaker}

-- ---- what is told of tables, stores and joins ----

abbrev pub IdleRecord : Record → Type 0
IdleRecord (says.Start e group brought) = ⊥
IdleRecord (says.Grant e call request inst m file stamp ss) = ⊥
IdleRecord (says.Refuse e call request inst m file why) = ⊥
IdleRecord (says.Release e inst file made) = ⊥
IdleRecord (says.Commit file s stamp parents content) = ⊥
IdleRecord (says.Adopt file s stamp) = ⊥
IdleRecord (says.Join s id members) = ⊥
IdleRecord _ = Unit {0}

-- nothing of a table, of a store, or of a join
abbrev pub Idle : Told → Type 0
Idle (Shown r) = IdleRecord r
Idle (Begins s e inst file) = ⊥
Idle (Shuts s e inst) = ⊥
Idle (Reserves s e inst file) = ⊥
Idle _ = Unit {0}

-- ---- begins, reserves, and starts of groups ----

abbrev pub Groups : Type 1
Groups = ℕ → Type 0

abbrev pub AtRecord : Groups → Record → Type 0
AtRecord G (says.Start e group brought) = G group
AtRecord G _ = Unit {0}

-- neither a begin nor a reserve, and if a start, of such a group
abbrev pub At : Groups → Told → Type 0
At G (Shown r) = AtRecord G r
At G (Begins s e inst file) = ⊥
At G (Reserves s e inst file) = ⊥
At G _ = Unit {0}

-- neither a begin nor a reserve
abbrev pub AnyGroup : Groups
AnyGroup group = Unit {0}

abbrev pub Plain : Told → Type 0
Plain x = At AnyGroup x

pub any_record : (r : Record) → AtRecord AnyGroup r
any_record (says.Start e group brought) = tt
any_record _ = tt

-- ---- what a table tells, and what a store ----

abbrev pub TabularRecord : EpochId → ℕ → Record → Type 0
TabularRecord e group (says.Start at of brought) = (at ≡ e) × (of ≡ group)
TabularRecord e group (says.Grant at call request inst m file stamp ss) = (at ≡ e) × (file.group ≡ group)
TabularRecord e group (says.Refuse at call request inst m file why) = (at ≡ e) × (file.group ≡ group)
TabularRecord e group (says.Release at inst file made) = (at ≡ e) × (file.group ≡ group)
TabularRecord e group _ = ⊥

-- the table of this epoch and group tells it
abbrev pub Tabular : EpochId → ℕ → Told → Type 0
Tabular e group (Shown r) = TabularRecord e group r
Tabular e group _ = ⊥

abbrev pub HereRecord : EpochId → ℕ → Record → Type 0
HereRecord e group (says.Commit file s stamp parents content) = ⊥
HereRecord e group (says.Adopt file s stamp) = ⊥
HereRecord e group (says.Join s id members) = ⊥
HereRecord e group (says.Start at of brought) = (at ≡ e) × (of ≡ group)
HereRecord e group (says.Grant at call request inst m file stamp ss) = (at ≡ e) × (file.group ≡ group)
HereRecord e group (says.Refuse at call request inst m file why) = (at ≡ e) × (file.group ≡ group)
HereRecord e group (says.Release at inst file made) = (at ≡ e) × (file.group ≡ group)
HereRecord e group _ = Unit {0}

-- what that table may tell
abbrev pub Here : EpochId → ℕ → Told → Type 0
Here e group (Shown r) = HereRecord e group r
Here e group (Begins s at inst file) = ⊥
Here e group (Shuts s at inst) = ⊥
Here e group (Reserves s at inst file) = ⊥
Here e group _ = Unit {0}

-- ---- what tells nothing of a table, nor reserves a number ----

abbrev pub AsideRecord : Record → Type 0
AsideRecord (says.Start e group brought) = ⊥
AsideRecord (says.Grant e call request inst m file stamp ss) = ⊥
AsideRecord (says.Refuse e call request inst m file why) = ⊥
AsideRecord (says.Release e inst file made) = ⊥
AsideRecord _ = Unit {0}

abbrev pub Aside : Told → Type 0
Aside (Shown r) = AsideRecord r
Aside (Reserves s e inst file) = ⊥
Aside _ = Unit {0}

idle_aside_record : (r : Record) → IdleRecord r → AsideRecord r
idle_aside_record (says.Start e group brought) h = absurd h
idle_aside_record (says.Grant e call request inst m file stamp ss) h = absurd h
idle_aside_record (says.Refuse e call request inst m file why) h = absurd h
idle_aside_record (says.Release e inst file made) h = absurd h
idle_aside_record _ h = tt

-- what a store tells but where it is asked to open
abbrev pub Storing : Told → Type 0
Storing (Shown r) = AsideRecord r
Storing (Begins s e inst file) = ⊥
Storing (Reserves s e inst file) = ⊥
Storing _ = Unit {0}

-- what is neither of a table nor of a store is so too
pub idle_storing : (x : Told) → Idle x → Storing x
idle_storing (Shown r) h = idle_aside_record r h
idle_storing (Begins s e inst file) h = h
idle_storing (Reserves s e inst file) h = h
idle_storing _ h = tt

pub storing_aside_one : (x : Told) → Storing x → Aside x
storing_aside_one (Shown r) h = h
storing_aside_one (Reserves s e inst file) h = absurd h
storing_aside_one _ h = tt

pub storing_aside : (xs : List Told) → Every Storing xs → Every Aside xs
storing_aside xs h = every_weaker Storing Aside xs storing_aside_one h

pub idle_aside : (xs : List Told) → Every Idle xs → Every Aside xs
idle_aside xs h = every_weaker Idle Aside xs (λ x k. storing_aside_one x (idle_storing x k)) h

storing_record : (G : Groups) (r : Record) → AsideRecord r → AtRecord G r
storing_record G (says.Start e group brought) h = absurd h
storing_record G _ h = tt

pub storing_one : (G : Groups) (x : Told) → Storing x → At G x
storing_one G (Shown r) h = storing_record G r h
storing_one G (Begins s e inst file) h = absurd h
storing_one G (Reserves s e inst file) h = absurd h
storing_one G _ h = tt

-- ---- packets ----

-- the body is none of those that carry what is known of files and instances between stores and tables
abbrev pub BlandBody : Body → Type 0
BlandBody (body.Report group copies) = ⊥
BlandBody (body.OpenSs inst file m set kind base vector parents) = ⊥
BlandBody (body.Opened inst answer) = ⊥
BlandBody (body.Closed inst made) = ⊥
BlandBody (body.Notify file kind set size stamp vector holder) = ⊥
BlandBody _ = Unit {0}

abbrev pub Bland : Packet → Type 0
Bland p = BlandBody p.body
