-- Each record keeps that the epochs of the past, and its history, say what the folds say.
use Rattle.std.proofs.Common.{◌≡◌, ℕ, ◌≤◌, ◌==◌, ◌||◌, ◌&&◌, Bool, true, false, cond, List, [], ◌∷◌, filter, fold, length, Option, Some, None, refl, sym, ap, subst, ◌∙◌, ◌⊎◌, inl, inr, arith}
use Rattle.std.specs.List.{list_any}
use Rattle.locus_ids.specs.declared.config.Config.{Config}
use Rattle.locus_ids.specs.declared.sites.Members.{Members}
use Rattle.locus_ids.specs.declared.ids.CallId.{CallId}
use Rattle.locus_ids.specs.declared.ids.EpochId.{EpochId}
use Rattle.locus_ids.specs.declared.ids.FileId.{FileId}
use Rattle.commit_graph.specs.Versions.{same_file}
use Rattle.trace_book.specs.Same.{same_call, same_epoch}
use Rattle.trace_book.specs.declared.call.Call.{Call}
use Rattle.trace_book.specs.declared.call.Call.TheVariants as call
use Rattle.trace_book.specs.declared.entry.Entry.{Entry}
use Rattle.trace_book.specs.declared.record.Record.{Record}
use Rattle.trace_book.specs.declared.record.Record.TheVariants as rec
use Rattle.trace_book.specs.declared.reply.Reply.{Reply}
use Rattle.trace_book.specs.declared.reply.Reply.TheVariants as reply
use Rattle.call_rules.specs.declared.answer.Answer.{Answer}
use Rattle.tree_model.specs.declared.accepted.Waiting.{Waiting}
use Rattle.tree_model.specs.Calls.{accepted_as, call_named}
use Rattle.tree_model.specs.Epochs.{epoch_of, has_joined, is_in, members_of}
use Rattle.tree_model.specs.Folds.{Trace}
use Rattle.tree_model.specs.Histories.{history}
use Rattle.promises.specs.of_lawful_trace.CallRows.{ends_mending, has_lost_mend, is_lost_mend}
use Rattle.promises.specs.of_lawful_trace.Lawful.{MayCome}
use Rattle.promises.specs.Past.{CallSoFar, Epoch, Past, epoch_at, is_named, nothing_yet, site_at}
use Rattle.promises.specs.After.{after, answered, change, close_answer, is_ender, is_epoch, left_unmended, released, replied_to, with_all_known, with_epoch}
use Rattle.past_laws.specs.Agreement.{Agrees, EpochsAgree, SaysGiven, speaks_of_sites, waiting_as}
use Rattle.past_laws.proofs.Names.{epoch_eq, false_true, file_turned, none_some, some_same}
use Rattle.past_laws.proofs.EpochsSay.{EpochsSay, epochs_entered, epochs_formed, epochs_kept, epochs_lost, formed, formed_more, formed_there, is_there_still}
use Rattle.past_laws.proofs.Sites.{Caller, caller_named, caller_of}
use Rattle.past_laws.proofs.SitesBegin.{history_begin}
use Rattle.past_laws.proofs.SitesSteps.{entry}

-- The epochs that sites are in, and in which calls were accepted, are there.
pub record AreThere (trace : Trace) (epochs : List Epoch) : Type 0 where
  pub inside : (site : ℕ) (e : EpochId) → epoch_of trace site ≡ Some e → list_any (is_epoch e) epochs ≡ true
  pub called : (id : CallId) (w : Waiting) (e : EpochId) → call_named trace id ≡ Some w → w.epoch ≡ Some e → list_any (is_epoch e) epochs ≡ true

abbrev pub Say : Trace → List Epoch → Type 0
Say trace epochs = EpochsSay (members_of trace) (λ e site. has_joined trace site e) (has_lost_mend trace) epochs

pub said_of_epochs : (c : Config) (trace : Trace) (p : Past) → EpochsAgree c trace p → Say trace p.epochs
said_of_epochs c trace p a = record { members = a.members; once = a.once; joined = a.joined; unmended = a.unmended }

pub there_of_past : (c : Config) (trace : Trace) (p : Past) → EpochsAgree c trace p → AreThere trace p.epochs
there_of_past c trace p a = record { inside = a.inside; called = a.called }

pub epochs_as_said : (c : Config) (trace : Trace) (p : Past) → Say trace p.epochs → AreThere trace p.epochs → p.history ≡ history c trace → EpochsAgree c trace p
epochs_as_said c trace p say there old = record { members = say.members; once = say.once; joined = say.joined; unmended = say.unmended; history = old; inside = there.inside; called = there.called }

-- where no site comes into an epoch and no call is accepted
there_still : (r : Entry) (before : Trace) (old new : List Epoch) → ((z : ℕ) (e : EpochId) → epoch_of (r ∷ before) z ≡ Some e → epoch_of before z ≡ Some e) → ((id : CallId) → call_named (r ∷ before) id ≡ call_named before id)
    → ((e : EpochId) → list_any (is_epoch e) new ≡ list_any (is_epoch e) old) → AreThere before old → AreThere (r ∷ before) new
there_still r before old new inside called same there = record {
  inside = λ z e h. same e ∙ there.inside z e (inside z e h);
  called = λ id w e h k. same e ∙ there.called id w e (sym (called id) ∙ h) k;
}

-- a site that goes is in no epoch
gone : (b : Bool) (old : Option EpochId) (e : EpochId) → cond b None old ≡ Some e → old ≡ Some e
gone true old e h = none_some e h
gone false old e h = h

-- The other parts of what becomes of the past.

epoch_epochs : (e : EpochId) (members : Members) (p : Past) → (with_epoch e members p).epochs ≡ formed e members p.epochs
epoch_epochs e members p = over (list_any (is_epoch e) p.epochs) refl
  where
    over : (b : Bool) → list_any (is_epoch e) p.epochs ≡ b → (with_epoch e members p).epochs ≡ formed e members p.epochs
    over true h = rw h refl
    over false h = rw h refl

epoch_history : (e : EpochId) (members : Members) (p : Past) → (with_epoch e members p).history ≡ p.history
epoch_history e members p = over (list_any (is_epoch e) p.epochs) refl
  where
    over : (b : Bool) → list_any (is_epoch e) p.epochs ≡ b → (with_epoch e members p).history ≡ p.history
    over true h = rw h refl
    over false h = rw h refl

pub answered_epochs : {X : Type 0} (which : X → CallSoFar → Bool) (a : X → Answer) (xs : List X) (p : Past) → (fold (λ old x. answered (which x) (a x) old) p xs).epochs ≡ p.epochs
answered_epochs which a [] p = refl
answered_epochs which a (x ∷ xs) p = answered_epochs which a xs (answered (which x) (a x) p)

pub answered_history : {X : Type 0} (which : X → CallSoFar → Bool) (a : X → Answer) (xs : List X) (p : Past) → (fold (λ old x. answered (which x) (a x) old) p xs).history ≡ p.history
answered_history which a [] p = refl
answered_history which a (x ∷ xs) p = answered_history which a xs (answered (which x) (a x) p)

-- what changes nothing that is said here
kept : (before : Trace) (p : Past) (which : Epoch → Bool) (f : Epoch → Epoch) → ((t : Epoch) → (f t).id ≡ t.id) → ((t : Epoch) → (f t).members ≡ t.members) → ((t : Epoch) → (f t).joined ≡ t.joined) → ((t : Epoch) → (f t).unmended ≡ t.unmended)
    → Say before p.epochs → Say before (change which f p.epochs)
kept before p which f id members joined unmended say = epochs_kept (members_of before) (λ e z. has_joined before z e) (has_lost_mend before) p.epochs which f id members joined unmended say

-- A site joins.

-- what becomes of the epoch
abbrev entering : ℕ → EpochId → Members → Past → Epoch → Epoch
entering site e members p t = record t { joined = site ∷ t.joined; known = with_all_known (site_at p site).held t.known }

join_there : (e d : EpochId) (members : Members) (epochs : List Epoch) (b : Bool) (old : Option EpochId) → (old ≡ Some d → list_any (is_epoch d) epochs ≡ true) → cond b (Some e) old ≡ Some d → list_any (is_epoch d) (formed e members epochs) ≡ true
join_there e d members epochs true old was h = subst (λ i. list_any (is_epoch i) (formed e members epochs) ≡ true) (some_same e d h) (formed_there e members epochs)
join_there e d members epochs false old was h = formed_more e members epochs d (was h)

-- A call is accepted.

accept_there : (e : EpochId) (b : Bool) (new w : Waiting) (old : Option Waiting) → cond b (Some new) old ≡ Some w → w.epoch ≡ Some e → (new.epoch ≡ Some e) ⊎ (old ≡ Some w)
accept_there e true new w old h k = inl (ap (λ (v : Waiting). v.epoch) (some_same new w h) ∙ k)
accept_there e false new w old h k = inr h

-- A call is answered.

pub is_in_some : (o : Option EpochId) (e : EpochId) → is_in o e ≡ true → o ≡ Some e
is_in_some None e h = false_true h
is_in_some (Some d) e h = ap (λ i. Some i) (epoch_eq d e h)

-- the directories that the reply leaves unmended in the epoch
abbrev lost_in : CallSoFar → Reply → EpochId → List FileId
lost_in k r e = cond (is_in k.epoch e) (left_unmended r k.words) []

none_left : (a : Bool) (f : FileId) → list_any (same_file f) (cond a [] []) ≡ false
none_left true f = refl
none_left false f = refl

never : (a b : Bool) → false ≡ (b && (a && false))
never true true = refl
never true false = refl
never false true = refl
never false false = refl

mend_left : (a b : Bool) (f g : FileId) → list_any (same_file f) (cond a (cond b (g ∷ []) []) []) ≡ (b && (a && same_file g f))
mend_left true true f g = or_none (same_file f g) ∙ file_turned f g
  where
    or_none : (x : Bool) → (x || false) ≡ x
    or_none true = refl
    or_none false = refl
mend_left true false f g = refl
mend_left false true f g = refl
mend_left false false f g = refl

lost_tells : (r : Reply) (words : Call) (site process : ℕ) (id : CallId) (o : Option EpochId) (e : EpochId) (f : FileId)
    → list_any (same_file f) (cond (is_in o e) (left_unmended r words) []) ≡ is_lost_mend e f r (Some (record { site = site; process = process; call = id; words = words; epoch = o }))
lost_tells (reply.No why) (call.Mend g) site process id o e f = mend_left (is_in o e) (ends_mending why) f g
lost_tells (reply.No why) words site process id o e f = none_left (is_in o e) f ∙ never (is_in o e) (ends_mending why)
lost_tells r words site process id o e f = none_left (is_in o e) f

epochs_answered : (line : ℕ) (site process : ℕ) (id : CallId) (r : Reply) (w : Waiting) (before : Trace) (p : Past) → Caller before p site process id w → call_named before id ≡ Some w → Say before p.epochs → AreThere before p.epochs
    → (k : CallSoFar) → waiting_as k ≡ w → Say (entry line (rec.Answer site process id r) ∷ before) (replied_to r k p).epochs
epochs_answered line site process id r w before p by named say there k is =
    subst (λ (o : Option Waiting). EpochsSay (members_of before) (λ e z. has_joined before z e) (λ e f. is_lost_mend e f r o || has_lost_mend before e f) (replied_to r k p).epochs) (sym own)
    (epochs_lost (members_of before) (λ e z. has_joined before z e) (has_lost_mend before) p.epochs _ (lost_in k r) (λ e f. is_lost_mend e f r (Some (waiting_as k))) (λ t. refl) (λ t. refl) (λ t. refl) (λ t. refl)
    tells (λ e f h. sym (tells e f) ∙ none e f h (is_in k.epoch e) refl) say)
  where
    own : call_named before id ≡ Some (waiting_as k)
    own = named ∙ ap (λ (v : Waiting). Some v) (sym is)

    tells : (e : EpochId) (f : FileId) → list_any (same_file f) (lost_in k r e) ≡ is_lost_mend e f r (Some (waiting_as k))
    tells e f = lost_tells r k.words k.id.site k.process k.id k.epoch e f

    none : (e : EpochId) (f : FileId) → list_any (is_epoch e) p.epochs ≡ false → (b : Bool) → is_in k.epoch e ≡ b → list_any (same_file f) (cond (is_in k.epoch e) (left_unmended r k.words) []) ≡ false
    none e f h true i = false_true (sym h ∙ there.called id (waiting_as k) e own (is_in_some k.epoch e i))
    none e f h false i = rw i refl

-- Each record.

pub epochs_step : (c : Config) (line : ℕ) (what : Record) (before : Trace) (p : Past) → MayCome c before what → speaks_of_sites c what ≡ true → SaysGiven c before what → Agrees c before p → EpochsAgree c (entry line what ∷ before) (after c what p)
epochs_step c line (rec.Up site boot) before p may ours given a = epochs_as_said c _ (after c (rec.Up site boot) p)
    (said_of_epochs c before p a.epochs)
    (there_still (entry line (rec.Up site boot)) before p.epochs p.epochs (λ z e h. gone (site == z) (epoch_of before z) e h) (λ id. refl) (λ e. refl) (there_of_past c before p a.epochs))
    a.epochs.history
epochs_step c line (rec.Stopped site why) before p may ours given a = epochs_as_said c _ (after c (rec.Stopped site why) p)
    (kept before p _ _ (λ t. refl) (λ t. refl) (λ t. refl) (λ t. refl) (said_of_epochs c before p a.epochs))
    (there_still (entry line (rec.Stopped site why)) before p.epochs _ (λ z e h. gone (site == z) (epoch_of before z) e h) (λ id. refl) (is_there_still _ _ (λ t. refl) p.epochs) (there_of_past c before p a.epochs))
    a.epochs.history
epochs_step c line (rec.Leave site epoch) before p may ours given a = epochs_as_said c _ (after c (rec.Leave site epoch) p)
    (kept before p _ _ (λ t. refl) (λ t. refl) (λ t. refl) (λ t. refl) (said_of_epochs c before p a.epochs))
    (there_still (entry line (rec.Leave site epoch)) before p.epochs _ (λ z e h. gone (site == z) (epoch_of before z) e h) (λ id. refl) (is_there_still _ _ (λ t. refl) p.epochs) (there_of_past c before p a.epochs))
    a.epochs.history
epochs_step c line (rec.Join site e members) before p may ours given a = epochs_as_said c _ (after c (rec.Join site e members) p)
    (subst (λ (ts : List Epoch). Say (entry line (rec.Join site e members) ∷ before) (change (is_epoch e) (entering site e members p) ts)) (sym (epoch_epochs e members p))
    (epochs_entered (λ d. cond (same_epoch e d) (Some members) (members_of before d)) (λ d z. has_joined before z d) (has_lost_mend before) (formed e members p.epochs) e site (entering site e members p) (λ t. refl) (λ t. refl) (λ t. refl) (λ t. refl)
    (formed_there e members p.epochs) (epochs_formed (members_of before) (λ d z. has_joined before z d) (has_lost_mend before) p.epochs e members may.same (said_of_epochs c before p a.epochs))))
    (subst (λ (ts : List Epoch). AreThere (entry line (rec.Join site e members) ∷ before) (change (is_epoch e) (entering site e members p) ts)) (sym (epoch_epochs e members p)) (record {
      inside = λ z d h. is_there_still (is_epoch e) (entering site e members p) (λ t. refl) (formed e members p.epochs) d ∙ join_there e d members p.epochs (site == z) (epoch_of before z) (a.epochs.inside z d) h;
      called = λ id w d h k. is_there_still (is_epoch e) (entering site e members p) (λ t. refl) (formed e members p.epochs) d ∙ formed_more e members p.epochs d (a.epochs.called id w d h k);
    }))
    (epoch_history e members p ∙ a.epochs.history)
epochs_step c line (rec.Accept site process id words) before p may ours given a = epochs_as_said c _ (after c (rec.Accept site process id words) p)
    (kept before p _ _ (λ t. refl) (λ t. refl) (λ t. refl) (λ t. refl) (said_of_epochs c before p a.epochs))
    (record {
      inside = λ z e h. is_there_still _ _ (λ t. refl) p.epochs e ∙ a.epochs.inside z e h;
      called = λ d w e h k. is_there_still _ _ (λ t. refl) p.epochs e ∙ over d w e (accept_there e (same_call id d) (accepted_as before site process id words) w (call_named before d) h k) k;
    })
    a.epochs.history
  where
    over : (d : CallId) (w : Waiting) (e : EpochId) → (epoch_of before site ≡ Some e) ⊎ (call_named before d ≡ Some w) → w.epoch ≡ Some e → list_any (is_epoch e) p.epochs ≡ true
    over d w e (inl h) k = a.epochs.inside site e h
    over d w e (inr h) k = a.epochs.called d w e h k
epochs_step c line (rec.Answer site process id r) before p may ours given a = over (caller_of c before p site process id may.caller a.calls may.waits)
  where
    over : Caller before p site process id may.caller → EpochsAgree c (entry line (rec.Answer site process id r) ∷ before) (after c (rec.Answer site process id r) p)
    over by = epochs_as_said c _ (after c (rec.Answer site process id r) p)
        (subst (λ (ks : List CallSoFar). Say (entry line (rec.Answer site process id r) ∷ before) (fold (λ old k. replied_to r k old) p ks).epochs) (sym by.only)
        (epochs_answered line site process id r may.caller before p by (caller_named c before p site process id may.caller a.calls by) (said_of_epochs c before p a.epochs) (there_of_past c before p a.epochs) by.k by.is))
        (subst (λ (ks : List CallSoFar). AreThere (entry line (rec.Answer site process id r) ∷ before) (fold (λ old k. replied_to r k old) p ks).epochs) (sym by.only)
        (there_still (entry line (rec.Answer site process id r)) before p.epochs _ (λ z e h. h) (λ d. refl) (is_there_still (λ t. true) _ (λ t. refl) p.epochs) (there_of_past c before p a.epochs)))
        (subst (λ (ks : List CallSoFar). (fold (λ old k. replied_to r k old) p ks).history ≡ history c before) (sym by.only) a.epochs.history)
epochs_step c line (rec.Start e group copies) before p may ours given a = epochs_as_said c _ (after c (rec.Start e group copies) p)
    (kept before p _ _ (λ t. refl) (λ t. refl) (λ t. refl) (λ t. refl) (said_of_epochs c before p a.epochs))
    (there_still (entry line (rec.Start e group copies)) before p.epochs _ (λ z d h. h) (λ k. refl) (is_there_still _ _ (λ t. refl) p.epochs) (there_of_past c before p a.epochs))
    a.epochs.history
epochs_step c line (rec.Grant e id request i m f stamp ss) before p may ours given a = epochs_as_said c _ (after c (rec.Grant e id request i m f stamp ss) p)
    (kept before p _ _ (λ t. refl) (λ t. refl) (λ t. refl) (λ t. refl) (said_of_epochs c before p a.epochs))
    (there_still (entry line (rec.Grant e id request i m f stamp ss)) before p.epochs _ (λ z d h. h) (λ k. refl) (is_there_still _ _ (λ t. refl) p.epochs) (there_of_past c before p a.epochs))
    a.epochs.history
epochs_step c line (rec.Refuse e id request i m f why) before p may ours given a = epochs_as_said c _ (after c (rec.Refuse e id request i m f why) p)
    (kept before p _ _ (λ t. refl) (λ t. refl) (λ t. refl) (λ t. refl) (said_of_epochs c before p a.epochs))
    (there_still (entry line (rec.Refuse e id request i m f why)) before p.epochs _ (λ z d h. h) (λ k. refl) (is_there_still _ _ (λ t. refl) p.epochs) (there_of_past c before p a.epochs))
    a.epochs.history
epochs_step c line (rec.Act e i n o result) before p may ours given a = epochs_as_said c _ (after c (rec.Act e i n o result) p)
    (kept before p _ _ (λ t. refl) (λ t. refl) (λ t. refl) (λ t. refl) (said_of_epochs c before p a.epochs))
    (there_still (entry line (rec.Act e i n o result)) before p.epochs _ (λ z d h. h) (λ k. refl) (is_there_still _ _ (λ t. refl) p.epochs) (there_of_past c before p a.epochs))
    a.epochs.history
epochs_step c line (rec.Commit f site stamp parents content) before p may ours given a = epochs_as_said c _ (after c (rec.Commit f site stamp parents content) p)
    (kept before p _ _ (λ t. refl) (λ t. refl) (λ t. refl) (λ t. refl) (said_of_epochs c before p a.epochs))
    (there_still (entry line (rec.Commit f site stamp parents content)) before p.epochs _ (λ z d h. h) (λ k. refl) (is_there_still _ _ (λ t. refl) p.epochs) (there_of_past c before p a.epochs))
    (ap (λ vs. record { file = f; site = site; stamp = stamp; parents = parents; content = content } ∷ vs) a.epochs.history)
epochs_step c line (rec.Release e i f stamp) before p may ours given a = epochs_as_said c _ (after c (rec.Release e i f stamp) p)
    (subst (λ (ts : List Epoch). Say (entry line (rec.Release e i f stamp) ∷ before) (change (is_epoch e) (released i f stamp) ts)) (sym same)
    (kept before p (is_epoch e) (released i f stamp) (λ t. refl) (λ t. refl) (λ t. refl) (λ t. refl) (said_of_epochs c before p a.epochs)))
    (subst (λ (ts : List Epoch). AreThere (entry line (rec.Release e i f stamp) ∷ before) (change (is_epoch e) (released i f stamp) ts)) (sym same)
    (there_still (entry line (rec.Release e i f stamp)) before p.epochs _ (λ z d h. h) (λ k. refl) (is_there_still (is_epoch e) (released i f stamp) (λ t. refl) p.epochs) (there_of_past c before p a.epochs)))
    (answered_history (λ x. is_ender (epoch_at p e) i) (close_answer stamp) (filter (is_named i) (epoch_at p e).opened) p ∙ a.epochs.history)
  where
    same : (fold (λ old x. answered (is_ender (epoch_at p e) i) (close_answer stamp x) old) p (filter (is_named i) (epoch_at p e).opened)).epochs ≡ p.epochs
    same = answered_epochs (λ x. is_ender (epoch_at p e) i) (close_answer stamp) (filter (is_named i) (epoch_at p e).opened) p
epochs_step c line what before p may ours given a = epochs_as_said c _ (after c what p)
    (said_of_epochs c before p a.epochs)
    (there_still (entry line what) before p.epochs p.epochs (λ z e h. h) (λ id. refl) (λ e. refl) (there_of_past c before p a.epochs))
    a.epochs.history

pub epochs_begin : (c : Config) → length c.packs ≤ 4 → EpochsAgree c [] (nothing_yet c)
epochs_begin c four = record {
  members = λ e. refl;
  once = λ e. omega arith;
  joined = λ e site. refl;
  unmended = λ e f. refl;
  history = history_begin c four;
  inside = λ site e h. none_some e h;
  called = λ id w e h k. none_some w h;
}
