-- What the using site takes for the next want of a call is what the call asks by the trace.
use Rattle.std.proofs.Common.{◌≡◌, ℕ, Bool, true, false, cond, List, [], ◌∷◌, Option, Some, None, refl, sym, ◌∙◌, ap, subst}
use Rattle.std.specs.Option.{is_some}
use Rattle.role_steps.proofs.of_plain_facts.Tests.{true_false}
use Rattle.locus_ids.specs.declared.ids.CallId.{CallId}
use Rattle.locus_ids.specs.declared.config.Config.{Config}
use Rattle.locus_ids.specs.declared.config.Mount.{Mount}
use Rattle.locus_ids.specs.declared.ids.FileId.{FileId}
use Rattle.locus_ids.specs.declared.ids.Kind.{Kind}
use Rattle.locus_ids.specs.declared.ids.Kind.TheVariants.{File, Dir}
use Rattle.locus_ids.specs.declared.refusal.Refusal.TheVariants.{BadName, NoStorage}
use Rattle.locus_ids.specs.declared.sites.Members.{Members}
use Rattle.trace_book.specs.Names.{components}
use Rattle.trace_book.specs.declared.call.Call.{Call}
use Rattle.trace_book.specs.declared.call.Call.TheVariants as call
use Rattle.trace_book.specs.declared.call.OpenMode.{OpenMode}
use Rattle.trace_book.specs.declared.descriptor.Beginning.{Beginning}
use Rattle.trace_book.specs.declared.descriptor.Beginning.TheVariants.{Denied, Uses, Walks, Reopens, Frees}
use Rattle.trace_book.specs.declared.reply.Reply.TheVariants as reply
use Rattle.call_rules.specs.Descriptors.{lowest_free}
use Rattle.call_rules.specs.Opening.{opens_file}
use Rattle.call_rules.specs.Scripts.{wants, where_packed, in_group, named_wants, begun_wants, path_wants}
use Rattle.call_rules.specs.Walks.{Walked, Asks, Fails, There, Strays, walk, walked, root_of}
use Rattle.call_rules.specs.Words.{is_badly_named}
use Rattle.call_rules.specs.declared.answer.Answer.{Answer}
use Rattle.call_rules.specs.declared.answer.Answer.TheVariants as answer
use Rattle.call_rules.specs.declared.want.Want.{Want}
use Rattle.call_rules.specs.declared.want.Want.TheVariants as want
use Rattle.role_steps.specs.Requests.{descriptors_of}
use Rattle.role_steps.specs.Using.{is_packed, is_some_site, next_want}
use Rattle.role_steps.specs.Views.{Users, Frame}
use Rattle.role_steps.specs.Views as role
use Rattle.role_steps.specs.declared.users.WaitingCall.{WaitingCall}
use Rattle.tree_laws.specs.of_the_run.Worlds.{Line}
use Rattle.tree_model.specs.Calls.{call_named}
use Rattle.tree_model.specs.Folds.{Trace}
use Rattle.tree_model.specs.Packs.{sync_site}
use Rattle.tree_model.specs.declared.accepted.Waiting.{Waiting}
use Rattle.tree_laws.specs.of_lawful_trace.Progress.{Answers, is_packed_in}
use Rattle.tree_laws.specs.of_lawful_trace.Tables.{begun}
use Rattle.tree_laws.specs.Printed.{entries}
use Rattle.tree_laws.specs.Calls.{is_request, script, script_as}
use Rattle.tree_laws.specs.Doing.{FrameFact}
use Rattle.tree_laws.specs.Serials.{asked_now}
use Rattle.tree_laws.proofs.Free.{AsksSame}
use Rattle.tree_laws.proofs.Orders.ProcessSynchronizing.{sync_same}
use Rattle.store_laws.specs.Users.Turning.{it, CallTurns}

-- ---- a request is asked whatever descriptor is free ----

opens_back : (how : OpenMode) (free : Option ℕ) (file : FileId) (kind : Kind) (xs : List Answer) → AsksSame (opens_file how free file kind xs) (opens_file how None file kind xs)
opens_back how free file Dir xs r = refl
opens_back how free file File [] r = refl
opens_back how (Some fd) file File (answer.Opened i ino ∷ []) r = absurd (true_false (sym r))
opens_back how None file File (answer.Opened i ino ∷ []) r = refl
opens_back how free file File (answer.Opened i ino ∷ x ∷ xs) r = absurd (true_false (sym r))
opens_back how (Some fd) file File (answer.Reading i version ∷ []) r = absurd (true_false (sym r))
opens_back how None file File (answer.Reading i version ∷ []) r = refl
opens_back how free file File (answer.Reading i version ∷ x ∷ xs) r = absurd (true_false (sym r))
opens_back how free file File (answer.Refused why ∷ []) r = refl
opens_back how free file File (answer.Refused why ∷ x ∷ xs) r = absurd (true_false (sym r))
opens_back how free file File (_ ∷ xs) r = absurd (true_false (sym r))

walked_back : (mounts : List Mount) (path : List (List ℕ)) (xs : List Answer) (f g : FileId → Kind → List Answer → Want) → ((file : FileId) (kind : Kind) (ys : List Answer) → AsksSame (f file kind ys) (g file kind ys)) → AsksSame (walked mounts path xs f) (walked mounts path xs g)
walked_back mounts path xs f g same = over (walk mounts path [] (root_of 0) Dir xs) refl
  where
    over : (x : Walked) → walk mounts path [] (root_of 0) Dir xs ≡ x → AsksSame (walked mounts path xs f) (walked mounts path xs g)
    over (Asks dir name) e = rw e (λ r. refl)
    over (Fails why) e = rw e (λ r. refl)
    over (There file kind ys) e = rw e (same file kind ys)
    over Strays e = rw e (λ r. refl)

path_back : (mounts : List Mount) (free : Option ℕ) (id : CallId) (words : Call) (xs : List Answer) → AsksSame (path_wants mounts free id words xs) (path_wants mounts None id words xs)
path_back mounts free id (call.Open path how) xs = walked_back mounts (components path) xs (opens_file how free) (opens_file how None) (λ file kind ys. opens_back how free file kind ys)
path_back mounts free id _ xs = λ r. refl

begun_back : (mounts : List Mount) (free : Option ℕ) (words : Call) (b : Beginning) (xs : List Answer) → AsksSame (begun_wants mounts free words b xs) (begun_wants mounts None words b xs)
begun_back mounts free words (Denied why) xs = λ r. refl
begun_back mounts free words (Uses epoch inst) xs = λ r. refl
begun_back mounts free words (Walks id) xs = path_back mounts free id words xs
begun_back mounts free words (Reopens kept last) xs = λ r. refl
begun_back mounts free words Frees xs = λ r. refl

named_back : (mounts : List Mount) (free : Option ℕ) (words : Call) (b : Beginning) (xs : List Answer) → AsksSame (named_wants mounts free words b xs) (named_wants mounts None words b xs)
named_back mounts free words b xs = over (is_badly_named mounts words)
  where
    over : (x : Bool) → AsksSame (cond x (want.Give (reply.No BadName)) (begun_wants mounts free words b xs)) (cond x (want.Give (reply.No BadName)) (begun_wants mounts None words b xs))
    over true = λ r. refl
    over false = begun_back mounts free words b xs

packed_request : (p : ℕ → Bool) (v : Want) → is_request (where_packed p v) ≡ true → is_request v ≡ true
packed_request p (want.Look file what) r = refl
packed_request p (want.Open file how) r = refl
packed_request p (want.OpenToMend file) r = refl
packed_request p (want.Make group kind sites) r = refl
packed_request p (want.Do i o) r = refl
packed_request p (want.Close i) r = refl
packed_request p (want.Give given) r = r
packed_request p want.Never r = r

wants_back : (mounts : List Mount) (p : ℕ → Bool) (free : Option ℕ) (words : Call) (b : Beginning) (xs : List Answer) → AsksSame (wants mounts p free words b xs) (wants mounts p None words b xs)
wants_back mounts p free words b xs r = ap (where_packed p) (named_back mounts free words b xs (packed_request p (named_wants mounts free words b xs) r))

script_back : (c : Config) (before : Trace) (o : Option Waiting) (b : Option Beginning) (free : Option ℕ) (xs : Answers) → AsksSame (script_as c before o b free xs) (script_as c before o b None xs)
script_back c before None b free xs r = refl
script_back c before (Some w) None free xs r = refl
script_back c before (Some w) (Some b) free xs r = wants_back c.mounts (is_packed_in c before w.epoch) free w.words b xs r

-- ---- which groups are packed ----

packed_wants : (mounts : List Mount) (p q : ℕ → Bool) (free : Option ℕ) (words : Call) (b : Beginning) (xs : List Answer) → ((g : ℕ) → p g ≡ q g) → wants mounts p free words b xs ≡ wants mounts q free words b xs
packed_wants mounts p q free words b xs same = over (named_wants mounts free words b xs)
  where
    group : (g : ℕ) (v : Want) → in_group p g v ≡ in_group q g v
    group g v = ap (λ (x : Bool). cond x v (want.Give (reply.No NoStorage))) (same g)

    over : (v : Want) → where_packed p v ≡ where_packed q v
    over (want.Look file what) = group file.group (want.Look file what)
    over (want.Open file how) = group file.group (want.Open file how)
    over (want.OpenToMend file) = group file.group (want.OpenToMend file)
    over (want.Make g kind sites) = group g (want.Make g kind sites)
    over (want.Do i o) = refl
    over (want.Close i) = refl
    over (want.Give given) = refl
    over want.Never = refl

packed_same : (c : Config) (t : List Line) (f : Frame) (g : ℕ) → FrameFact c t f → is_packed f g ≡ is_packed_in c (entries t) (Some f.epoch) g
packed_same c t f g frame = ap (λ (k : Config). is_some_site (role.sync_site k f.members g)) frame.config_is
    ∙ (ap is_some_site (sync_same c f.members g)
    ∙ (some_site (sync_site c g (Some f.members)) ∙ ap (λ (m : Option Members). is_some (sync_site c g m)) (sym frame.members_are)))
  where
    some_site : (o : Option ℕ) → is_some_site o ≡ is_some o
    some_site None = refl
    some_site (Some s) = refl

-- ---- the next want ----

-- by the trace, where this descriptor is free
pub next_is : (c : Config) (t : List Line) (f : Frame) (w : WaitingCall) (u : Users) → FrameFact c t f → CallTurns c t f w → next_want f w u ≡ script c (entries t) (it f w) (lowest_free (descriptors_of u w.process)) w.answers
next_is c t f w u frame k = ap (λ (x : Config). wants x.mounts (is_packed f) free w.words w.begins w.answers) frame.config_is
    ∙ (packed_wants c.mounts (is_packed f) (is_packed_in c (entries t) (Some f.epoch)) free w.words w.begins w.answers (λ g. packed_same c t f g frame)
    ∙ (ap (λ (x : Waiting). script_as c (entries t) (Some x) (Some w.begins) free w.answers) (sym k.caller_is)
    ∙ (ap (λ (o : Option Waiting). script_as c (entries t) o (Some w.begins) free w.answers) (sym k.named)
    ∙ ap (λ (b : Option Beginning). script_as c (entries t) (call_named (entries t) (it f w)) b free w.answers) (sym k.begins_is))))
  where
    free : Option ℕ
    free = lowest_free (descriptors_of u w.process)

-- a request that the site asks is what the call asks
pub asked_is : (c : Config) (t : List Line) (f : Frame) (w : WaitingCall) (u : Users) (v : Want) → FrameFact c t f → CallTurns c t f w → next_want f w u ≡ v → is_request v ≡ true → asked_now c t (it f w) ≡ v
asked_is c t f w u v frame k e r = ap (script c (entries t) (it f w) None) (sym k.answers_are) ∙ (back (subst (λ (x : Want). is_request x ≡ true) (sym is) r) ∙ is)
  where
    free : Option ℕ
    free = lowest_free (descriptors_of u w.process)

    is : script c (entries t) (it f w) free w.answers ≡ v
    is = sym (next_is c t f w u frame k) ∙ e

    back : AsksSame (script c (entries t) (it f w) free w.answers) (script c (entries t) (it f w) None w.answers)
    back r = script_back c (entries t) (call_named (entries t) (it f w)) (begun (entries t) (it f w)) free w.answers r
