-- Who was granted something walks, or is a read that opens a version again; and so who names what it was granted is an open, or such a read.
use Rattle.std.proofs.Common.{◌≡◌, ℕ, Bool, true, false, cond, List, [], ◌∷◌, Option, Some, None, refl, sym, ◌∙◌, ap, subst, ◌⊎◌, inl, inr}
use Rattle.role_steps.proofs.of_plain_facts.Options.{none_some}
use Rattle.role_steps.proofs.of_plain_facts.Tests.{true_false}
use Rattle.locus_ids.specs.declared.config.Config.{Config}
use Rattle.locus_ids.specs.declared.config.Mount.{Mount}
use Rattle.locus_ids.specs.declared.ids.CallId.{CallId}
use Rattle.locus_ids.specs.declared.ids.EpochId.{EpochId}
use Rattle.locus_ids.specs.declared.ids.Serial.{Serial}
use Rattle.locus_ids.specs.declared.refusal.Refusal.TheVariants as refusal
use Rattle.trace_book.specs.Same.{same_call}
use Rattle.trace_book.specs.declared.call.Call.{Call}
use Rattle.trace_book.specs.declared.call.Call.TheVariants as call
use Rattle.trace_book.specs.declared.call.OpenMode.{OpenMode}
use Rattle.trace_book.specs.declared.descriptor.Beginning.{Beginning}
use Rattle.trace_book.specs.declared.descriptor.Beginning.TheVariants as begins
use Rattle.trace_book.specs.declared.descriptor.Descriptor.{Descriptor}
use Rattle.trace_book.specs.declared.descriptor.OneVersion.{OneVersion}
use Rattle.trace_book.specs.declared.operation.Op.{Op}
use Rattle.trace_book.specs.declared.operation.Op.TheVariants as op
use Rattle.trace_book.specs.declared.record.Record.TheVariants as says
use Rattle.trace_book.specs.declared.reply.Reply.{Reply}
use Rattle.trace_book.specs.declared.reply.Reply.TheVariants as reply
use Rattle.call_rules.specs.declared.answer.Answer.{Answer}
use Rattle.call_rules.specs.declared.answer.Answer.TheVariants as answer
use Rattle.call_rules.specs.declared.want.Want.{Want}
use Rattle.call_rules.specs.declared.want.Want.TheVariants as want
use Rattle.call_rules.specs.Descriptors.{beginning}
use Rattle.call_rules.specs.Opening.{close_wants, op_wants, uses_wants}
use Rattle.call_rules.specs.Scripts.{named_wants, wants}
use Rattle.call_rules.specs.Words.{is_badly_named}
use Rattle.role_steps.specs.Views.{Told, Shown}
use Rattle.the_run.specs.Worlds.{Line}
use Rattle.tree_model.specs.declared.accepted.Waiting.{Waiting}
use Rattle.tree_model.specs.Calls.{call_named, opening_of}
use Rattle.lawful_trace.specs.Progress.{is_packed_in}
use Rattle.lawful_trace.specs.Tables.{begun}
use Rattle.tree_laws.proofs.OwnWalks.{begun_own}
use Rattle.tree_laws.specs.Calls.{is_request, log, script, script_as}
use Rattle.tree_laws.specs.Following.{BeganFor, IsFollowed, MayTell, RepliesNaming}
use Rattle.tree_laws.specs.Holding.{begun_with, with_begun}
use Rattle.locus_ids.specs.declared.ids.FileId.{FileId}
use Rattle.wire_messages.specs.declared.body.Opening.{Opening}
use Rattle.tree_laws.specs.Instances.{AsksOpen, IsOpening}
use Rattle.tree_laws.specs.Printed.{entries}
use Rattle.tree_laws.specs.Serials.{asked_now, is_open_want}
use Rattle.tree_laws.proofs.Names.{same_call_eq}
use Rattle.tree_laws.proofs.Scripts.{begun_stays, named_stays}
use Rattle.store_laws.proofs.ScriptEnding.{GivesNone}
use Rattle.store_laws.proofs.ScriptEndingCalls.{NotOpen, has_by, wants_end}
use Rattle.store_laws.proofs.ScriptFitted.{Began, began, began_right, fit_same, log_fits, script_sound}
use Rattle.store_laws.proofs.ScriptFitting.{IsSound, ReadWords, Script}
use Rattle.store_laws.proofs.ScriptHad.{by_same, has_log}
use Rattle.store_laws.proofs.ScriptSoundCalls.{BeginsRight, HasFree}
use Rattle.store_laws.proofs.ScriptReopening.{packed_shut}

abbrev With : ℕ → Told → List Line → List Line
With n x older = record { number = n; told = x } ∷ older

-- ---- who opens walks ----

op_opens : (i : Serial) (o : Op) (xs : List Answer) → is_open_want (op_wants i o xs) ≡ false
op_opens i o [] = refl
op_opens i o (answer.Did result ∷ []) = refl
op_opens i o (answer.Did result ∷ (a ∷ xs)) = refl
op_opens i o (answer.Refused why ∷ []) = refl
op_opens i o (answer.Refused why ∷ (a ∷ xs)) = refl
op_opens i o (_ ∷ xs) = refl

close_opens : (i : Serial) (xs : List Answer) → is_open_want (close_wants i xs) ≡ false
close_opens i [] = refl
close_opens i (answer.Ended stamp ∷ []) = refl
close_opens i (answer.Ended stamp ∷ (a ∷ xs)) = refl
close_opens i (answer.Refused why ∷ []) = refl
close_opens i (answer.Refused why ∷ (a ∷ xs)) = refl
close_opens i (_ ∷ xs) = refl

uses_opens : (words : Call) (i : Serial) (xs : List Answer) → is_open_want (uses_wants words i xs) ≡ false
uses_opens (call.Read fd at len) i xs = op_opens i (op.Read at len) xs
uses_opens (call.Write fd at bytes) i xs = op_opens i (op.Write at bytes) xs
uses_opens (call.Cut fd len) i xs = op_opens i (op.Cut len) xs
uses_opens (call.Commit fd) i xs = op_opens i op.Commit xs
uses_opens (call.Abort fd) i xs = op_opens i op.Abort xs
uses_opens (call.Close fd) i xs = close_opens i xs
uses_opens _ i xs = refl

-- a read that opens a version again
pub record Rereads (words : Call) (b : Beginning) : Type 0 where
  pub fd : ℕ
  pub at : ℕ
  pub len : ℕ
  pub words_are : words ≡ call.Read fd at len
  pub kept : OneVersion
  pub last : EpochId
  pub begins_are : b ≡ begins.Reopens kept last

pub rereads_so : (words : Call) (kept : OneVersion) (last : EpochId) → ReadWords words → Rereads words (begins.Reopens kept last)
rereads_so (call.Read fd at len) kept last r = record { fd = fd; at = at; len = len; words_are = refl; kept = kept; last = last; begins_are = refl }
rereads_so _ kept last r = absurd r

opener_begins : (mounts : List Mount) (pk : ℕ → Bool) (free : Option ℕ) (words : Call) (b : Beginning) (xs : List Answer) → BeginsRight words b → is_open_want (wants mounts pk free words b xs) ≡ true → ((x : CallId) × (b ≡ begins.Walks x)) ⊎ Rereads words b
opener_begins mounts pk free words (begins.Walks id) xs right e = inl (id, refl)
opener_begins mounts pk free words (begins.Reopens kept last) xs right e = inr (rereads_so words kept last right)
opener_begins mounts pk free words (begins.Denied why) xs right e = absurd (true_false (sym e ∙ packed_shut pk (named_wants mounts free words (begins.Denied why) xs) (over (is_badly_named mounts words))))
  where
    over : (x : Bool) → is_open_want (cond x (want.Give (reply.No refusal.BadName)) (want.Give (reply.No why))) ≡ false
    over true = refl
    over false = refl
opener_begins mounts pk free words begins.Frees xs right e = absurd (true_false (sym e ∙ packed_shut pk (named_wants mounts free words begins.Frees xs) (over (is_badly_named mounts words))))
  where
    over : (x : Bool) → is_open_want (cond x (want.Give (reply.No refusal.BadName)) (want.Give (reply.Closed None))) ≡ false
    over true = refl
    over false = refl
opener_begins mounts pk free words (begins.Uses at i) xs right e = absurd (true_false (sym e ∙ packed_shut pk (named_wants mounts free words (begins.Uses at i) xs) (over (is_badly_named mounts words))))
  where
    over : (x : Bool) → is_open_want (cond x (want.Give (reply.No refusal.BadName)) (uses_wants words i xs)) ≡ false
    over true = refl
    over false = uses_opens words i xs

-- the script of a call that was accepted, by its words and where it began
pub script_by : (c : Config) (t : List Line) (d : CallId) (w : Waiting) (b : Beginning) (free : Option ℕ) (xs : List Answer) → call_named (entries t) d ≡ Some w → begun (entries t) d ≡ Some b → script c (entries t) d free xs ≡ wants c.mounts (is_packed_in c (entries t) w.epoch) free w.words b xs
script_by c t d w b free xs named starts = ap (λ (o : Option Waiting). script_as c (entries t) o (begun (entries t) d) free xs) named ∙ ap (λ (o : Option Beginning). script_as c (entries t) (Some w) o free xs) starts

-- the call has begun as a read that opens a version again
abbrev pub RereadsIn : List Line → CallId → Call → Type 0
RereadsIn t d words = (b : Beginning) × (begun (entries t) d ≡ Some b) × Rereads words b

-- where a call has begun that opens something
abbrev pub BeganOpening : List Line → CallId → Call → Type 0
BeganOpening t d words = (begun (entries t) d ≡ Some (begins.Walks d)) ⊎ RereadsIn t d words

-- a call that asks an open walks, or is a read that opens a version again
pub asks_begins : (c : Config) (t : List Line) (d : CallId) (w : Waiting) → call_named (entries t) d ≡ Some w → is_open_want (asked_now c t d) ≡ true → BeganOpening t d w.words
asks_begins c t d w named opens = over (opener_begins c.mounts (is_packed_in c (entries t) w.epoch) None w.words (beginning k.table w.epoch d w.words) (log t d) (began_right t d w (beginning k.table w.epoch d w.words) named k.begun_is)
    (ap is_open_want (sym (script_by c t d w (beginning k.table w.epoch d w.words) None (log t d) named k.begun_is)) ∙ opens))
  where
    k : Began t d w
    k = began t d w named

    over : ((x : CallId) × (beginning k.table w.epoch d w.words ≡ begins.Walks x)) ⊎ Rereads w.words (beginning k.table w.epoch d w.words) → BeganOpening t d w.words
    over (inl walks) = inl (begun_own (entries t) d walks.0 (k.begun_is ∙ ap Some walks.1))
    over (inr reads) = inr (beginning k.table w.epoch d w.words, k.begun_is, reads)

-- ---- who was granted something walks, or is such a read ----

pub record BeganSo (t : List Line) (d : CallId) : Type 0 where
  pub caller : Waiting
  pub named : call_named (entries t) d ≡ Some caller
  pub opening : BeganOpening t d caller.words

begun_so_stays : (c : Config) (n : ℕ) (x : Told) (older : List Line) (d : CallId) → IsFollowed c older → MayTell c older x → BeganSo older d → BeganSo (With n x older) d
begun_so_stays c n x older d h may k = record {
  caller = k.caller;
  named = named_stays c n x older d h may (k.caller, k.named) ∙ k.named;
  opening = over k.opening;
}
  where
    over : BeganOpening older d k.caller.words → BeganOpening (With n x older) d k.caller.words
    over (inl walks) = inl (begun_stays c n x older d h may (k.caller, k.named) ∙ walks)
    over (inr reads) = inr (reads.0, begun_stays c n x older d h may (k.caller, k.named) ∙ reads.1, reads.2)

abbrev OpenersBegin : List Line → Type 0
OpenersBegin t = (d : CallId) (x : Descriptor) → opening_of (entries t) d ≡ Some x → BeganSo t d

pub opening_is_open : (c : Config) (w : Want) (f : FileId) (it : Opening) → IsOpening c w f it → is_open_want w ≡ true
opening_is_open c (want.Open file m) f it o = refl
opening_is_open c (want.OpenToMend file) f it o = refl
opening_is_open c (want.Make group kind sites) f it o = refl
opening_is_open c (want.Look file w) f it o = absurd o
opening_is_open c (want.Do i p) f it o = absurd o
opening_is_open c (want.Close i) f it o = absurd o
opening_is_open c (want.Give r) f it o = absurd o
opening_is_open c want.Never f it o = absurd o

begin_told : (c : Config) (n : ℕ) (y : Told) (older : List Line) → IsFollowed c older → MayTell c older y → OpenersBegin older → OpenersBegin (With n y older)
begin_told c n (Shown (says.Grant e it request i m f stamp ss)) older h may k d x is = over (same_call it d) refl is
  where
    asks : AsksOpen c older e it request i.serial may.in_time.opens.asked may.in_time.opens.it
    asks = may.in_time.opens.asks

    now : BeganSo older it
    now = record { caller = asks.inside.accepted; named = asks.inside.named; opening = asks_begins c older it asks.inside.accepted asks.inside.named (ap is_open_want asks.asks.asked ∙ opening_is_open c asks.wanted may.in_time.opens.asked may.in_time.opens.it asks.opening_is) }

    over : (b : Bool) → same_call it d ≡ b → cond b (Some (record { mode = m; epoch = e; inst = i; steady = None })) (opening_of (entries older) d) ≡ Some x → BeganSo (With n (Shown (says.Grant e it request i m f stamp ss)) older) d
    over true p q = begun_so_stays c n (Shown (says.Grant e it request i m f stamp ss)) older d h may (subst (BeganSo older) (same_call_eq it d p) now)
    over false p q = begun_so_stays c n (Shown (says.Grant e it request i m f stamp ss)) older d h may (k d x q)
begin_told c n (Shown r) older h may k d x is = begun_so_stays c n (Shown r) older d h may (k d x is)
begin_told c n y older h may k d x is = begun_so_stays c n y older d h may (k d x is)

-- who was granted something walks, or is a read that opens a version again
pub openers_begin : (c : Config) (t : List Line) → IsFollowed c t → (d : CallId) (x : Descriptor) → opening_of (entries t) d ≡ Some x → BeganSo t d
openers_begin c [] h d x is = absurd (none_some x is)
openers_begin c (y ∷ older) h d x is = begin_told c y.number y.told older h.1 h.0 (openers_begin c older h.1) d x is

-- ---- who names what it was granted ----

none_held : (c : Config) (t : List Line) (d : CallId) (x : Descriptor) (r : Reply) (w : Waiting) → IsFollowed c t → RepliesNaming c t d r → opening_of (entries t) d ≡ Some x → call_named (entries t) d ≡ Some w → begun (entries t) d ≡ Some (begins.Walks d) → NotOpen w.words → ⊥
none_held c t d x r w h replies is named walks other = ended (s (log t d)) refl
  where
    pk : ℕ → Bool
    pk = is_packed_in c (entries t) w.epoch

    s : Script
    s = wants c.mounts pk None w.words (begins.Walks d)

    same : (ys : List Answer) → script c (entries t) d None ys ≡ s ys
    same ys = script_by c t d w (begins.Walks d) None ys named walks

    no_free : (id : CallId) (words : Call) → NotOpen words → HasFree None (begins.Walks id) words
    no_free id (call.Open path m) n = absurd n
    no_free id words n = tt

    sound : IsSound w.words None (s (log t d))
    sound = subst (IsSound w.words None) (same (log t d)) (script_sound c t d w (begins.Walks d) None h named walks (no_free d w.words other))

    end : GivesNone (s (log t d)) (has_by s (begun_with (begins.Walks d)) (log t d))
    end = wants_end c.mounts pk None d w.words (begun_with (begins.Walks d)) (λ i e. true_false (sym e)) (began_right t d w (begins.Walks d) named walks) other (log t d) (fit_same (script c (entries t) d None) s (log t d) same (log_fits c t d h (w, named)))

    has : has_by s (begun_with (begins.Walks d)) (log t d) x.inst ≡ true
    has = sym (has_log c t h d (w, named) x.inst ∙ (by_same (script c (entries t) d None) s (with_begun (begun (entries t) d)) (log t d) x.inst same ∙ ap (λ (o : Option Beginning). has_by s (with_begun o) (log t d) x.inst) walks)) ∙ replies.held x is

    nothing : is_request (s (log t d)) ≡ false
    nothing = ap is_request (sym (same (log t d))) ∙ replies.replies.nothing_asked

    ended : (v : Want) → s (log t d) ≡ v → ⊥
    ended (want.Give r) e = subst (λ (y : Want). GivesNone y (has_by s (begun_with (begins.Walks d)) (log t d))) e end x.inst has
    ended want.Never e = subst (IsSound w.words None) e sound
    ended (want.Look f v) e = true_false (ap is_request (sym e) ∙ nothing)
    ended (want.Open f m) e = true_false (ap is_request (sym e) ∙ nothing)
    ended (want.OpenToMend f) e = true_false (ap is_request (sym e) ∙ nothing)
    ended (want.Make g kind sites) e = true_false (ap is_request (sym e) ∙ nothing)
    ended (want.Do i o) e = true_false (ap is_request (sym e) ∙ nothing)
    ended (want.Close i) e = true_false (ap is_request (sym e) ∙ nothing)

-- the call opens
pub record Opens (words : Call) : Type 0 where
  pub path : List ℕ
  pub how : OpenMode
  pub words_are : words ≡ call.Open path how

open_words : (words : Call) → (NotOpen words → ⊥) → Opens words
open_words (call.Open path m) h = record { path = path; how = m; words_are = refl }
open_words words h = absurd (h tt)

-- a call that is answered by a descriptor, and was granted something, is an open
pub named_opens : (c : Config) (t : List Line) (d : CallId) (x : Descriptor) (fd : ℕ) (w : Waiting) → IsFollowed c t → RepliesNaming c t d (reply.Opened fd) → opening_of (entries t) d ≡ Some x → call_named (entries t) d ≡ Some w → Opens w.words
named_opens c t d x fd w h replies is named = over (begun (entries t) d) refl (replies.began x is)
  where
    over : (o : Option Beginning) → begun (entries t) d ≡ o → BeganFor (reply.Opened fd) o → Opens w.words
    over (Some (begins.Walks id)) e for = open_words w.words (none_held c t d x (reply.Opened fd) w h replies is named (begun_own (entries t) d id e))
    over o e for = absurd for

-- and one that is answered by what it read is a read that has opened a version again
pub named_reads : (c : Config) (t : List Line) (d : CallId) (x : Descriptor) (bytes : List ℕ) (w : Waiting) → RepliesNaming c t d (reply.Data bytes) → opening_of (entries t) d ≡ Some x → call_named (entries t) d ≡ Some w → RereadsIn t d w.words
named_reads c t d x bytes w replies is named = over (begun (entries t) d) refl (replies.began x is)
  where
    over : (o : Option Beginning) → begun (entries t) d ≡ o → BeganFor (reply.Data bytes) o → RereadsIn t d w.words
    over (Some (begins.Reopens kept last)) e for = (begins.Reopens kept last, e, rereads_so w.words kept last (began_right t d w (begins.Reopens kept last) named e))
    over o e for = absurd for
