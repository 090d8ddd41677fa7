-- A call that uses or closes an instance by its descriptor is granted none: its script asks for no open.
use Rattle.std.proofs.Common.{◌≡◌, ℕ, Bool, true, false, cond, List, [], ◌∷◌, Option, Some, None, refl, sym, ap, ◌∙◌}
use Rattle.locus_ids.specs.declared.config.Config.{Config}
use Rattle.locus_ids.specs.declared.config.Mount.{Mount}
use Rattle.locus_ids.specs.declared.ids.CallId.{CallId}
use Rattle.locus_ids.specs.declared.ids.EpochId.{EpochId}
use Rattle.locus_ids.specs.declared.ids.FileId.{FileId}
use Rattle.locus_ids.specs.declared.ids.Mode.{Mode}
use Rattle.locus_ids.specs.declared.ids.Mode.TheVariants as mode
use Rattle.locus_ids.specs.declared.ids.Serial.{Serial}
use Rattle.locus_ids.specs.declared.refusal.Refusal.TheVariants.{BadName}
use Rattle.trace_book.specs.Same.{same_call}
use Rattle.trace_book.specs.declared.call.Call.{Call}
use Rattle.trace_book.specs.declared.call.Call.TheVariants as call
use Rattle.trace_book.specs.declared.descriptor.Beginning.{Beginning}
use Rattle.trace_book.specs.declared.descriptor.Beginning.TheVariants as begins
use Rattle.trace_book.specs.declared.descriptor.Descriptor.{Descriptor}
use Rattle.trace_book.specs.declared.operation.Op.{Op}
use Rattle.trace_book.specs.declared.operation.Op.TheVariants as op
use Rattle.trace_book.specs.declared.record.Record.{Record}
use Rattle.trace_book.specs.declared.record.Record.TheVariants as says
use Rattle.trace_book.specs.declared.reply.Reply.TheVariants as reply
use Rattle.call_rules.specs.Descriptors.{lowest_free}
use Rattle.call_rules.specs.Opening.{close_wants, op_wants, uses_wants}
use Rattle.call_rules.specs.Scripts.{wants, where_packed}
use Rattle.call_rules.specs.Words.{is_badly_named}
use Rattle.call_rules.specs.declared.answer.Answer.{Answer}
use Rattle.call_rules.specs.declared.answer.Answer.TheVariants as answer
use Rattle.call_rules.specs.declared.want.Want.{Want}
use Rattle.call_rules.specs.declared.want.Want.TheVariants as want
use Rattle.tree_model.specs.declared.accepted.Waiting.{Waiting}
use Rattle.tree_model.specs.Calls.{call_named, opening_of}
use Rattle.tree_model.specs.Folds.{Trace}
use Rattle.promises.specs.of_lawful_trace.Lawful.{MayCome}
use Rattle.promises.specs.of_lawful_trace.Progress.{answers, is_packed_in, wants_as}
use Rattle.promises.specs.of_lawful_trace.Tables.{begins_now, begun, descriptor}
use Rattle.promises.specs.of_lawful_trace.TreeRows.{is_open_of}
use Rattle.promises.specs.Past.{Past}
use Rattle.past_laws.specs.Agreement.{Agrees}
use Rattle.past_laws.proofs.CallsFields.{new_none}
use Rattle.past_laws.proofs.CallsGranted.{With}
use Rattle.past_laws.proofs.CallsUsers.{numbered}
use Rattle.past_laws.proofs.Names.{call_eq, false_true}

-- neither an open nor what hangs on the packs of members
abbrev NoOpen : Want → Type 0
NoOpen (want.Look f w) = ⊥
NoOpen (want.Open f how) = ⊥
NoOpen (want.OpenToMend f) = ⊥
NoOpen (want.Make group kind sites) = ⊥
NoOpen _ = Unit {0}

no_open : (m : Mode) (f : FileId) (w : Want) → NoOpen w → is_open_of m f w ≡ true → ⊥
no_open m f (want.Open g how) k h = k
no_open m f (want.OpenToMend g) k h = k
no_open m f (want.Make group kind sites) k h = k
no_open mode.Read f _ k h = false_true h
no_open mode.Write f _ k h = false_true h
no_open mode.Resolve f _ k h = false_true h
no_open mode.Mend f _ k h = false_true h
no_open mode.Make f _ k h = false_true h

packed_no : (q : ℕ → Bool) (w : Want) → NoOpen w → NoOpen (where_packed q w)
packed_no q (want.Look f w) k = absurd k
packed_no q (want.Open f how) k = absurd k
packed_no q (want.OpenToMend f) k = absurd k
packed_no q (want.Make group kind sites) k = absurd k
packed_no q _ k = k

does_no : (i : Serial) (o : Op) (xs : List Answer) → NoOpen (op_wants i o xs)
does_no i o [] = tt
does_no i o (answer.Did r ∷ []) = tt
does_no i o (answer.Refused why ∷ []) = tt
does_no i o (_ ∷ rest) = tt

closes_no : (i : Serial) (xs : List Answer) → NoOpen (close_wants i xs)
closes_no i [] = tt
closes_no i (answer.Ended stamp ∷ []) = tt
closes_no i (answer.Refused why ∷ []) = tt
closes_no i (_ ∷ rest) = tt

uses_no : (words : Call) (i : Serial) (xs : List Answer) → NoOpen (uses_wants words i xs)
uses_no (call.Read fd at len) i xs = does_no i (op.Read at len) xs
uses_no (call.Write fd at bytes) i xs = does_no i (op.Write at bytes) xs
uses_no (call.Cut fd len) i xs = does_no i (op.Cut len) xs
uses_no (call.Commit fd) i xs = does_no i op.Commit xs
uses_no (call.Abort fd) i xs = does_no i op.Abort xs
uses_no (call.Close fd) i xs = closes_no i xs
uses_no _ i xs = tt

wants_no : (mounts : List Mount) (q : ℕ → Bool) (free : Option ℕ) (words : Call) (e : EpochId) (i : Serial) (xs : List Answer) → NoOpen (wants mounts q free words (begins.Uses e i) xs)
wants_no mounts q free words e i xs = over (is_badly_named mounts words)
  where
    over : (b : Bool) → NoOpen (where_packed q (cond b (want.Give (reply.No BadName)) (uses_wants words i xs)))
    over true = tt
    over false = packed_no q (uses_wants words i xs) (uses_no words i xs)

pub ungranted_step : (c : Config) (n : ℕ) (w : Record) (before : Trace) (p : Past) → MayCome c before w → Agrees c before p → (d : CallId) (e : EpochId) (i : Serial) → begun (With n w before) d ≡ Some (begins.Uses e i) → opening_of (With n w before) d ≡ None
ungranted_step c n (says.Accept s process new words) before p may a d e i h = over (same_call new d) refl h
  where
    over : (b : Bool) → same_call new d ≡ b → cond b (Some (begins_now before s process new words)) (begun before d) ≡ Some (begins.Uses e i) → opening_of before d ≡ None
    over true q k = ap (opening_of before) (sym (call_eq new d q)) ∙ (a.calls.unheard new (new_none before s new a.calls.users (numbered c before s process new words may))).0
    over false q k = a.calls.ungranted d e i k
ungranted_step c n (says.Grant at id request inst m f stamp ss) before p may a d e i h = over (same_call id d) refl
  where
    wanted : (o : Option Waiting) (b : Option Beginning) → b ≡ Some (begins.Uses e i) → is_open_of m f (wants_as c before o b (answers c before id)) ≡ true → ⊥
    wanted None b g k = no_open m f want.Never tt k
    wanted (Some w) b g k = no_open m f (wants c.mounts (is_packed_in c before w.epoch) (lowest_free (descriptor before w.site w.process)) w.words (begins.Uses e i) (answers c before id))
        (wants_no c.mounts (is_packed_in c before w.epoch) (lowest_free (descriptor before w.site w.process)) w.words e i (answers c before id))
        (ap (λ (x : Option Beginning). is_open_of m f (wants_as c before (Some w) x (answers c before id))) (sym g) ∙ k)

    it : Descriptor
    it = record { mode = m; epoch = at; inst = inst; steady = None }

    over : (b : Bool) → same_call id d ≡ b → cond b (Some it) (opening_of before d) ≡ None
    over true q = absurd (wanted (call_named before id) (begun before id) (ap (begun before) (call_eq id d q) ∙ h) may.opens.asked)
    over false q = a.calls.ungranted d e i h
ungranted_step c n _ before p may a d e i h = a.calls.ungranted d e i h
