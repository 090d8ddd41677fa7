-- Requests are answered fairly: nothing but a close is answered by an end, and a close tells a version only where it may.
use Rattle.std.proofs.Common.{◌≡◌, ℕ, zero, suc, Bool, true, false, cond, List, [], ◌∷◌, ◌++◌, take, Option, Some, None, refl, sym, ◌∙◌, ap, subst, ◌⊎◌, inl, inr}
use Rattle.std.specs.List.{find}
use Rattle.std.specs.Option.{option_map, is_some}
use Rattle.locus_ids.specs.declared.config.Config.{Config}
use Rattle.locus_ids.specs.declared.sites.Members.{Members}
use Rattle.locus_ids.specs.declared.ids.CallId.{CallId}
use Rattle.locus_ids.specs.declared.ids.EpochId.{EpochId}
use Rattle.locus_ids.specs.declared.ids.Serial.{Serial}
use Rattle.locus_ids.specs.declared.ids.FileId.{FileId}
use Rattle.locus_ids.specs.declared.ids.Stamp.{Stamp}
use Rattle.locus_ids.specs.declared.ids.Mode.{Mode}
use Rattle.locus_ids.specs.declared.ids.Mode.TheVariants as mode
use Rattle.commit_graph.specs.Versions.{content_of}
use Rattle.trace_book.specs.declared.operation.What.{What}
use Rattle.trace_book.specs.declared.operation.What.TheVariants as what
use Rattle.trace_book.specs.declared.operation.Served.{Served}
use Rattle.trace_book.specs.declared.operation.Served.TheVariants as served
use Rattle.trace_book.specs.declared.operation.Outcome.{Outcome}
use Rattle.trace_book.specs.declared.operation.Outcome.TheVariants as outcome
use Rattle.trace_book.specs.Same.{same_epoch}
use Rattle.trace_book.specs.declared.descriptor.Beginning.{Beginning}
use Rattle.trace_book.specs.declared.descriptor.Beginning.TheVariants as begins
use Rattle.trace_book.specs.declared.record.Record.{Record}
use Rattle.trace_book.specs.declared.record.Record.TheVariants as says
use Rattle.call_rules.specs.declared.answer.Answer.{Answer}
use Rattle.call_rules.specs.declared.answer.Answer.TheVariants as answer
use Rattle.call_rules.specs.declared.want.Want.{Want}
use Rattle.call_rules.specs.declared.want.Want.TheVariants as want
use Rattle.call_rules.specs.Scripts.{wants}
use Rattle.tree_model.specs.Epochs.{members_of}
use Rattle.tree_model.specs.Folds.{Trace}
use Rattle.tree_model.specs.Packs.{sync_site}
use Rattle.lawful_trace.specs.Lawful.{MayCome}
use Rattle.tree_model.specs.Histories.{history}
use Rattle.tree_model.specs.of_dir_format.declared.looking.LookResult.{LookResult}
use Rattle.tree_model.specs.of_dir_format.declared.looking.LookResult.TheVariants as looked
use Rattle.tree_model.specs.of_dir_format.Contents.{entries_of}
use Rattle.tree_model.specs.of_dir_format.Lookups.{lookup}
use Rattle.lawful_trace.specs.Progress.{Answers, is_packed_in, look_answer, entered, granted_answer, outcome_answer}
use Rattle.lawful_trace.specs.TreeRows.{is_open_of}
use Rattle.promises.specs.Past.{Past, Epoch, CallSoFar}
use Rattle.promises.specs.After.{is_id, is_epoch, change}
use Rattle.past_laws.specs.Agreement.{Agrees, waiting_as}
use Rattle.past_laws.proofs.Names.{false_true, none_some, both, both_parts, call_eq, epoch_eq}
use Rattle.past_laws.proofs.Changing.{any_finds, found_passes}
use Rattle.past_laws.proofs.CallsLists.{WasFound, was_found}
use Rattle.past_laws.proofs.CallsGranted.{With}
use Rattle.past_laws.proofs.CallsAlike.{head}
use Rattle.past_laws.proofs.CallsAsks.{named_as, is_request}
use Rattle.headline_laws.specs.HeadlinePromises.Fair.{Script, fits, is_fair, won_by, won_after, none_won}

-- ---- one answer more ----

pub fair_more : (won : Serial → Bool) (s : Script) (xs : List Answer) (a : Answer) → is_fair won s xs ≡ true → fits (won_by won s xs) (s xs) a ≡ true → is_fair won s (xs ++ a ∷ []) ≡ true
fair_more won s [] a h k = both _ true k refl
fair_more won s (x ∷ xs) a h k = (let parts = both_parts (fits won (s []) x) (is_fair (won_after won (s []) x) (λ ys. s (x ∷ ys)) xs) h in
    both _ _ parts.0 (fair_more (won_after won (s []) x) (λ ys. s (x ∷ ys)) xs a parts.1 k))

-- and fewer
pub fair_less : (won : Serial → Bool) (s : Script) (n : ℕ) (xs : List Answer) → is_fair won s xs ≡ true → is_fair won s (take n xs) ≡ true
fair_less won s n [] h = none n
  where
    none : (n : ℕ) → is_fair won s (take n []) ≡ true
    none zero = refl
    none (suc n) = refl
fair_less won s zero (x ∷ xs) h = refl
fair_less won s (suc n) (x ∷ xs) h = (let parts = both_parts (fits won (s []) x) (is_fair (won_after won (s []) x) (λ ys. s (x ∷ ys)) xs) h in
    both _ _ parts.0 (fair_less (won_after won (s []) x) (λ ys. s (x ∷ ys)) n xs parts.1))

-- ---- scripts stay ----

-- what a call asks after its answers, by the folds
abbrev pub script_of : Config → Trace → CallSoFar → Script
script_of c trace k xs = wants c.mounts (is_packed_in c trace k.epoch) k.free k.words k.begins xs

-- the members of an epoch that is listed stay
members_stay : (c : Config) (n : ℕ) (w : Record) (before : Trace) (e : EpochId) (m : Members) → MayCome c before w → members_of before e ≡ Some m → members_of (With n w before) e ≡ Some m
members_stay c n (says.Join s at members) before e m may h = over (same_epoch at e) refl
  where
    listed : members_of before at ≡ members_of before e → (members_of before at ≡ None) ⊎ (members_of before at ≡ Some members) → ◌≡◌ {A = Option Members} (Some members) (Some m)
    listed same (inl none) = none_some m (sym none ∙ (same ∙ h))
    listed same (inr some) = sym some ∙ (same ∙ h)

    over : (b : Bool) → same_epoch at e ≡ b → cond b (Some members) (members_of before e) ≡ Some m
    over true p = listed (ap (members_of before) (epoch_eq at e p)) may.same
    over false p = h
members_stay c n _ before e m may h = h

-- the epoch of a call is listed
call_listed : (c : Config) (before : Trace) (p : Past) → Agrees c before p → (k : CallSoFar) → find (is_id k.id) p.calls ≡ Some k → (e : EpochId) → k.epoch ≡ Some e → (m : Members) × (members_of before e ≡ Some m)
call_listed c before p a k found e h = (let f = any_finds (is_epoch e) p.epochs (a.epochs.called k.id (waiting_as k) e (named_as c before p a k found) h) in
    (f.one.members, sym (a.epochs.members e) ∙ ap (option_map (λ (t : Epoch). t.members)) f.found))

pub script_stays : (c : Config) (n : ℕ) (w : Record) (before : Trace) (p : Past) → MayCome c before w → Agrees c before p → (k : CallSoFar) → find (is_id k.id) p.calls ≡ Some k → script_of c (With n w before) k ≡ script_of c before k
script_stays c n w before p may a k found = ap packed_script (over k.epoch refl)
  where
    packed_script : (ℕ → Bool) → Script
    packed_script q xs = wants c.mounts q k.free k.words k.begins xs

    over : (o : Option EpochId) → k.epoch ≡ o → is_packed_in c (With n w before) o ≡ is_packed_in c before o
    over None h = refl
    over (Some e) h = (let m = call_listed c before p a k found e h in λ i group. is_some (sync_site c group ((members_stay c n w before e m.0 may m.1 ∙ sym m.1) i)))

-- ---- each call ----

-- it doesn't use an instance of a descriptor
abbrev pub NotUses : Beginning → Type 0
NotUses (begins.Uses e i) = ⊥
NotUses _ = Unit {0}

abbrev pub IsFair : Config → Trace → CallSoFar → Type 0
IsFair c trace k = NotUses k.begins → is_fair none_won (script_of c trace k) k.answers ≡ true

abbrev pub AllFair : Config → Trace → Past → Type 0
AllFair c trace p = (k : CallSoFar) → find (is_id k.id) p.calls ≡ Some k → IsFair c trace k

-- the call as it was before, by what no record changes of it
pub fair_as : (c : Config) (n : ℕ) (w : Record) (before : Trace) (p : Past) → MayCome c before w → Agrees c before p → (was k : CallSoFar) → find (is_id was.id) p.calls ≡ Some was → head was ≡ head k → (NotUses was.begins → is_fair none_won (script_of c before was) k.answers ≡ true) → IsFair c (With n w before) k
fair_as c n w before p may a was k own same h walks = ap (λ (s : Script). is_fair none_won s k.answers) (sym (ap (script_of c (With n w before)) same) ∙ script_stays c n w before p may a was own) ∙ h (subst NotUses (sym (ap (λ (x : CallSoFar). x.begins) same)) walks)

pub fair_changed : (c : Config) (n : ℕ) (w : Record) (before : Trace) (p : Past) → MayCome c before w → Agrees c before p → (q : CallSoFar → Bool) (h : CallSoFar → CallSoFar) (f : Answers → Answers) → ((x : CallSoFar) → head (h x) ≡ head x) → ((x : CallSoFar) → (h x).answers ≡ f x.answers)
    → ((x : CallSoFar) → find (is_id x.id) p.calls ≡ Some x → q x ≡ true → IsFair c before x → NotUses x.begins → is_fair none_won (script_of c before x) (f x.answers) ≡ true) → AllFair c before p → (k : CallSoFar) → find (is_id k.id) (change q h p.calls) ≡ Some k → IsFair c (With n w before) k
fair_changed c n w before p may a q h f heads parts more all k found = at (was_found (is_id k.id) q h (λ x. ap (is_id k.id) (heads x)) p.calls k found)
  where
    at : WasFound (is_id k.id) q h p.calls k → IsFair c (With n w before) k
    at y = over (q y.was) refl y.is
      where
        own : find (is_id y.was.id) p.calls ≡ Some y.was
        own = ap (λ (d : CallId). find (is_id d) p.calls) (call_eq y.was.id k.id (found_passes (is_id k.id) p.calls y.was y.found)) ∙ y.found

        over : (b : Bool) → q y.was ≡ b → cond b (h y.was) y.was ≡ k → IsFair c (With n w before) k
        over true e is = fair_as c n w before p may a y.was k own (sym (heads y.was) ∙ ap head is) (λ walks. ap (λ (x : CallSoFar). is_fair none_won (script_of c before y.was) x.answers) (sym is) ∙ (ap (is_fair none_won (script_of c before y.was)) (parts y.was) ∙ more y.was own e (all y.was own) walks))
        over false e is = fair_as c n w before p may a y.was k own (ap head is) (λ walks. ap (λ (x : CallSoFar). is_fair none_won (script_of c before y.was) x.answers) (sym is) ∙ all y.was own walks)

-- ---- what fits ----

abbrev pub IsNoClose : Want → Type 0
IsNoClose (want.Close i) = ⊥
IsNoClose _ = Unit {0}

abbrev pub IsNoEnd : Answer → Type 0
IsNoEnd (answer.Ended stamp) = ⊥
IsNoEnd _ = Unit {0}

pub fits_other : (won : Serial → Bool) (w : Want) (a : Answer) → IsNoClose w → IsNoEnd a → fits won w a ≡ true
fits_other won (want.Close i) a h k = absurd h
fits_other won w (answer.Ended stamp) h k = absurd k
fits_other won _ _ h k = refl

pub looked_no_end : (c : Config) (before : Trace) (f : FileId) (w : What) (r : Served) → IsNoEnd (look_answer c before f w r)
looked_no_end c before f w (served.No why) = tt
looked_no_end c before f (what.Name component) (served.At stamp) = over (lookup (entries_of (content_of (history c before) f stamp)) component)
  where
    over : (r : LookResult) → IsNoEnd (entered component r)
    over (looked.Found ino kind) = tt
    over looked.Absent = tt
    over (looked.Ambiguous a b) = tt
looked_no_end c before f what.List (served.At stamp) = tt
looked_no_end c before f what.Stat (served.At stamp) = tt
looked_no_end c before f (what.Whole asked) (served.At stamp) = tt

pub granted_no_end : (m : Mode) (i : Serial) (f : FileId) (stamp : Option Stamp) (ss : List Stamp) → IsNoEnd (granted_answer m i f stamp ss)
granted_no_end mode.Read i f (Some stamp) ss = tt
granted_no_end mode.Read i f None ss = tt
granted_no_end _ i f stamp ss = tt

pub outcome_no_end : (r : Outcome) → IsNoEnd (outcome_answer r)
outcome_no_end (outcome.No why) = tt
outcome_no_end _ = tt

pub open_no_close : (m : Mode) (f : FileId) (w : Want) → is_open_of m f w ≡ true → IsNoClose w × (is_request w ≡ true)
open_no_close mode.Read f (want.Open g how) h = (tt, refl)
open_no_close mode.Write f (want.Open g how) h = (tt, refl)
open_no_close mode.Resolve f (want.Open g how) h = (tt, refl)
open_no_close mode.Mend f (want.OpenToMend g) h = (tt, refl)
open_no_close mode.Make f (want.Make group kind sites) h = (tt, refl)
open_no_close _ f _ h = false_true h
