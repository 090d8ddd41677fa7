-- What stands in the trace: looks, opens, operations and ends of instances, and what storage sites did with them. Whatever
-- stands once stands in every later trace.
use Rattle.std.specs.Prelude.{ℕ, ◌≡◌, ◌⊎◌, List, [], ◌∷◌, Option}
use Rattle.locus_ids.specs.declared.config.Config.{Config}
use Rattle.locus_ids.specs.declared.ids.CallId.{CallId}
use Rattle.locus_ids.specs.declared.ids.EpochId.{EpochId}
use Rattle.locus_ids.specs.declared.ids.FileId.{FileId}
use Rattle.locus_ids.specs.declared.ids.Mode.{Mode}
use Rattle.locus_ids.specs.declared.ids.Serial.{Serial}
use Rattle.locus_ids.specs.declared.ids.Stamp.{Stamp}
use Rattle.locus_ids.specs.declared.refusal.Refusal.{Refusal}
use Rattle.trace_book.specs.declared.operation.Op.{Op}
use Rattle.trace_book.specs.declared.operation.Outcome.{Outcome}
use Rattle.trace_book.specs.declared.operation.Served.{Served}
use Rattle.trace_book.specs.declared.operation.What.{What}
use Rattle.trace_book.specs.declared.record.Record.{Record}
use Rattle.trace_book.specs.declared.record.Record.TheVariants as says
use Rattle.call_rules.specs.declared.answer.Answer.{Answer}
use Rattle.the_run.specs.of_role_steps.Views.{Told, Shown, Begins, Shuts, Reserves}
use Rattle.the_run.specs.Worlds.{Line}
use Rattle.lawful_trace.specs.of_tree_model.State.{instance_in}
use Rattle.lawful_trace.specs.of_tree_model.Tree.{tree_of}
use Rattle.lawful_trace.specs.Progress.{close_answer}
use Rattle.tree_laws.specs.Printed.{entries}
use Rattle.tree_laws.specs.Calls.{tries}

-- something was told that was so after the lines before it
abbrev pub Was : (List Line → Told → Type 0) → List Line → Type 0
Was P [] = ⊥
Was P (x ∷ older) = P older x.told ⊎ Was P older

-- a printed record of this sort
abbrev pub Printed : (List Line → Record → Type 0) → List Line → Told → Type 0
Printed P older (Shown r) = P older r
Printed P older _ = ⊥

-- ---- looks ----

-- the look of this request, asked for the so-manieth time, was served so
pub record LookOf (older : List Line) (e : EpochId) (d : CallId) (request times : ℕ) (f : FileId) (w : What) (result : Served) (at : EpochId) (call : CallId) (number : ℕ) (file : FileId) (asked : What) (served : Served) : Type 0 where
  pub epoch_is : at ≡ e
  pub call_is : call ≡ d
  pub request_is : number ≡ request
  pub tries_are : tries older d ≡ times
  pub file_is : file ≡ f
  pub what_is : asked ≡ w
  pub served_is : served ≡ result

abbrev pub LookRecord : EpochId → CallId → ℕ → ℕ → FileId → What → Served → List Line → Record → Type 0
LookRecord e d request times f w result older (says.Look at call number file asked served) = LookOf older e d request times f w result at call number file asked served
LookRecord e d request times f w result older _ = ⊥

abbrev pub WasLooked : List Line → EpochId → CallId → ℕ → ℕ → FileId → What → Served → Type 0
WasLooked trace e d request times f w result = Was (Printed (LookRecord e d request times f w result)) trace

-- ---- opens ----

pub record GrantOf (e : EpochId) (d : CallId) (request : ℕ) (i : Serial) (m : Mode) (f : FileId) (stamp : Option Stamp) (ss : ℕ) (at : EpochId) (call : CallId) (number : ℕ) (inst : Serial) (mode : Mode) (file : FileId) (on : Option Stamp) (place : ℕ) : Type 0 where
  pub epoch_is : at ≡ e
  pub call_is : call ≡ d
  pub request_is : number ≡ request
  pub serial_is : inst ≡ i
  pub mode_is : mode ≡ m
  pub file_is : file ≡ f
  pub stamp_is : on ≡ stamp
  pub place_is : place ≡ ss

abbrev pub GrantRecord : EpochId → CallId → ℕ → Serial → Mode → FileId → Option Stamp → ℕ → List Line → Record → Type 0
GrantRecord e d request i m f stamp ss older (says.Grant at call number inst mode file on place) = GrantOf e d request i m f stamp ss at call number inst mode file on place
GrantRecord e d request i m f stamp ss older _ = ⊥

-- the open of the call was granted so
abbrev pub WasGranted : List Line → EpochId → CallId → ℕ → Serial → Mode → FileId → Option Stamp → ℕ → Type 0
WasGranted trace e d request i m f stamp ss = Was (Printed (GrantRecord e d request i m f stamp ss)) trace

pub record RefusalOf (e : EpochId) (d : CallId) (request : ℕ) (i : Serial) (m : Mode) (why : Refusal) (at : EpochId) (call : CallId) (number : ℕ) (inst : Serial) (mode : Mode) (reason : Refusal) : Type 0 where
  pub epoch_is : at ≡ e
  pub call_is : call ≡ d
  pub request_is : number ≡ request
  pub serial_is : inst ≡ i
  pub mode_is : mode ≡ m
  pub reason_is : reason ≡ why

abbrev pub RefusalRecord : EpochId → CallId → ℕ → Serial → Mode → Refusal → List Line → Record → Type 0
RefusalRecord e d request i m why older (says.Refuse at call number inst mode file reason) = RefusalOf e d request i m why at call number inst mode reason
RefusalRecord e d request i m why older _ = ⊥

-- or refused
abbrev pub WasRefused : List Line → EpochId → CallId → ℕ → Serial → Mode → Refusal → Type 0
WasRefused trace e d request i m why = Was (Printed (RefusalRecord e d request i m why)) trace

pub record NamesIt (e : EpochId) (i : Serial) (at : EpochId) (inst : Serial) : Type 0 where
  pub epoch_is : at ≡ e
  pub serial_is : inst ≡ i

abbrev pub NamingRecord : EpochId → Serial → List Line → Record → Type 0
NamingRecord e i older (says.Grant at call number inst mode file on place) = NamesIt e i at inst
NamingRecord e i older (says.Refuse at call number inst mode file reason) = NamesIt e i at inst
NamingRecord e i older _ = ⊥

-- the open with this serial number was granted or refused
abbrev pub WasNamed : List Line → EpochId → Serial → Type 0
WasNamed trace e i = Was (Printed (NamingRecord e i)) trace

-- or of a file of this group
abbrev pub NamesHere : EpochId → ℕ → Serial → List Line → Record → Type 0
NamesHere e group i older (says.Grant at call number inst m file on place) = NamesIt e i at inst × (file.group ≡ group)
NamesHere e group i older (says.Refuse at call number inst m file reason) = NamesIt e i at inst × (file.group ≡ group)
NamesHere e group i older _ = ⊥

abbrev pub WasNamedIn : List Line → EpochId → ℕ → Serial → Type 0
WasNamedIn trace e group i = Was (Printed (NamesHere e group i)) trace

-- ---- operations and ends ----

pub record ActOf (e : EpochId) (i : Serial) (n : ℕ) (o : Op) (result : Outcome) (at : EpochId) (inst : Serial) (number : ℕ) (what : Op) (gave : Outcome) : Type 0 where
  pub epoch_is : at ≡ e
  pub serial_is : inst ≡ i
  pub number_is : number ≡ n
  pub operation_is : what ≡ o
  pub result_is : gave ≡ result

abbrev pub ActRecord : EpochId → Serial → ℕ → Op → Outcome → List Line → Record → Type 0
ActRecord e i n o result older (says.Act at inst number what gave) = ActOf e i n o result at inst number what gave
ActRecord e i n o result older _ = ⊥

-- operation n of the instance was done so
abbrev pub WasDone : List Line → EpochId → Serial → ℕ → Op → Outcome → Type 0
WasDone trace e i n o result = Was (Printed (ActRecord e i n o result)) trace

pub record ReleaseOf (c : Config) (older : List Line) (e : EpochId) (i : Serial) (stamp : Option Stamp) (a : Answer) (at : EpochId) (inst : Serial) (file : FileId) (last : Option Stamp) : Type 0 where
  pub epoch_is : at ≡ e
  pub serial_is : inst ≡ i
  pub stamp_is : last ≡ stamp
  pub answer_is : close_answer last (instance_in (tree_of c e file.group (entries older)) inst) ≡ a

abbrev pub ReleaseRecord : Config → EpochId → Serial → Option Stamp → Answer → List Line → Record → Type 0
ReleaseRecord c e i stamp a older (says.Release at inst file last) = ReleaseOf c older e i stamp a at inst file last
ReleaseRecord c e i stamp a older _ = ⊥

-- the instance was released with this last version, which its close is answered so
abbrev pub WasReleasedWith : Config → List Line → EpochId → Serial → Option Stamp → Answer → Type 0
WasReleasedWith c trace e i stamp a = Was (Printed (ReleaseRecord c e i stamp a)) trace

abbrev pub EndRecord : EpochId → Serial → List Line → Record → Type 0
EndRecord e i older (says.Release at inst file last) = NamesIt e i at inst
EndRecord e i older _ = ⊥

abbrev pub WasReleased : List Line → EpochId → Serial → Type 0
WasReleased trace e i = Was (Printed (EndRecord e i)) trace

-- ---- what storage sites did ----

pub record DeedOf (s : ℕ) (e : EpochId) (i : Serial) (f : FileId) (site : ℕ) (at : EpochId) (inst : Serial) (file : FileId) : Type 0 where
  pub site_is : site ≡ s
  pub epoch_is : at ≡ e
  pub serial_is : inst ≡ i
  pub file_is : file ≡ f

abbrev pub BeginsIt : ℕ → EpochId → Serial → FileId → List Line → Told → Type 0
BeginsIt s e i f older (Begins site at inst file) = DeedOf s e i f site at inst file
BeginsIt s e i f older _ = ⊥

-- the storage site has begun the instance, on this file
abbrev pub WasBegun : List Line → ℕ → EpochId → Serial → FileId → Type 0
WasBegun trace s e i f = Was (BeginsIt s e i f) trace

abbrev pub ReservesIt : ℕ → EpochId → Serial → FileId → List Line → Told → Type 0
ReservesIt s e i f older (Reserves site at inst file) = DeedOf s e i f site at inst file
ReservesIt s e i f older _ = ⊥

-- the storage site has reserved the number of the file for the instance that makes it
abbrev pub WasReserved : List Line → ℕ → EpochId → Serial → FileId → Type 0
WasReserved trace s e i f = Was (ReservesIt s e i f) trace

pub record ShutOf (s : ℕ) (e : EpochId) (i : Serial) (site : ℕ) (at : EpochId) (inst : Serial) : Type 0 where
  pub site_is : site ≡ s
  pub epoch_is : at ≡ e
  pub serial_is : inst ≡ i

abbrev pub ShutsIt : ℕ → EpochId → Serial → List Line → Told → Type 0
ShutsIt s e i older (Shuts site at inst) = ShutOf s e i site at inst
ShutsIt s e i older _ = ⊥

-- the storage site has begun to close the instance
abbrev pub WasShut : List Line → ℕ → EpochId → Serial → Type 0
WasShut trace s e i = Was (ShutsIt s e i) trace
