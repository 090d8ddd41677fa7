-- Which record gave a call its last answer.
use Rattle.std.specs.Prelude.{ℕ, ◌≡◌, ◌-◌, true, List, ◌∷◌, ◌++◌, Some, take}
use Rattle.locus_ids.specs.declared.config.Config.{Config}
use Rattle.locus_ids.specs.declared.ids.CallId.{CallId}
use Rattle.locus_ids.specs.declared.ids.Serial.{Serial}
use Rattle.file_content.specs.Contents.{part}
use Rattle.trace_book.specs.Same.{same_call}
use Rattle.trace_book.specs.declared.entry.Entry.{Entry}
use Rattle.trace_book.specs.declared.record.Record.{Record}
use Rattle.trace_book.specs.declared.record.Record.TheVariants.{Look, Grant, Refuse, Act, Release}
use Rattle.call_rules.specs.declared.answer.Answer.{Answer}
use Rattle.call_rules.specs.declared.answer.Answer.TheVariants.{Refused}
use Rattle.file_effects.specs.declared.work.Work.{Work}
use Rattle.tree_model.specs.Folds.{Trace}
use Rattle.tree_model.specs.declared.instance.Instance.{Instance}
use Rattle.tree_model.specs.State.{TreeState, instance_in}
use Rattle.tree_model.specs.Tree.{kept_in, tree_of}
use Rattle.lawful_trace.specs.Progress.{Answers, answers, close_answer, granted_answer, look_answer, outcome_answer}
use Rattle.lawful_trace.specs.Tables.{call_of_act, call_of_release, is_call}

-- the record is a step of the call, which had these answers before it, and is answered so
abbrev pub IsAnsweredBy : Config → Trace → CallId → Answers → Answer → Record → Type 0
IsAnsweredBy c before d earlier a (Look e call request f w result) = (same_call call d ≡ true) × (take (request - 1) (answers c before d) ≡ earlier) × (look_answer c before f w result ≡ a)
IsAnsweredBy c before d earlier a (Grant e call request i mode f stamp ss) = (same_call call d ≡ true) × (answers c before d ≡ earlier) × (granted_answer mode i f stamp (kept_in c before e f) ≡ a)
IsAnsweredBy c before d earlier a (Refuse e call request i mode f why) = (same_call call d ≡ true) × (answers c before d ≡ earlier) × (Refused why ≡ a)
IsAnsweredBy c before d earlier a (Act e i n o result) = (is_call (call_of_act before e i n) d ≡ true) × (answers c before d ≡ earlier) × (outcome_answer result ≡ a)
IsAnsweredBy c before d earlier a (Release e i f stamp) = (is_call (call_of_release before e i) d ≡ true) × (answers c before d ≡ earlier) × (close_answer stamp (instance_in (tree_of c e f.group before) i) ≡ a)
IsAnsweredBy c before d earlier a _ = ⊥

-- the last answer of the call is of a record of the trace
pub record WasAnswered (c : Config) (t : Trace) (d : CallId) (earlier : Answers) (a : Answer) : Type 0 where
  pub later : Trace
  pub entry : Entry
  pub before : Trace
  pub split : t ≡ later ++ entry ∷ before
  pub gave : IsAnsweredBy c before d earlier a entry.what

-- the bytes are those of the working content of an open instance
pub record ReadsOn (t : TreeState) (i : Serial) (at len : ℕ) (bytes : List ℕ) : Type 0 where
  pub on : Instance
  pub is_open : instance_in t i ≡ Some on
  pub bytes_are : bytes ≡ part on.work.content at len

-- an instance works on the same content, and stands on the same version
pub record KeepsContent (before after : Work) : Type 0 where
  pub content : after.content ≡ before.content
  pub last : after.last ≡ before.last
  pub committed : after.committed ≡ before.committed
