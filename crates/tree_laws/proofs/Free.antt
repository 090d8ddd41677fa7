-- What a call asks, but for its reply, doesn't hang on which descriptor is free.
use Rattle.std.proofs.Common.{◌≡◌, ℕ, Bool, true, false, cond, List, [], ◌∷◌, Option, Some, None, refl, sym, ap}
use Rattle.the_run.proofs.of_plain_facts.Tests.{true_false}
use Rattle.locus_ids.specs.declared.ids.CallId.{CallId}
use Rattle.locus_ids.specs.declared.config.Config.{Config}
use Rattle.locus_ids.specs.declared.config.Mount.{Mount}
use Rattle.locus_ids.specs.declared.ids.FileId.{FileId}
use Rattle.locus_ids.specs.declared.ids.Kind.{Kind}
use Rattle.locus_ids.specs.declared.ids.Kind.TheVariants.{File, Dir}
use Rattle.trace_book.specs.declared.call.Call.{Call}
use Rattle.trace_book.specs.declared.call.Call.TheVariants as call
use Rattle.trace_book.specs.declared.call.OpenMode.{OpenMode}
use Rattle.trace_book.specs.declared.descriptor.Beginning.{Beginning}
use Rattle.trace_book.specs.declared.descriptor.Beginning.TheVariants.{Denied, Uses, Walks, Reopens, Frees}
use Rattle.locus_ids.specs.declared.refusal.Refusal.TheVariants.{BadName}
use Rattle.trace_book.specs.declared.reply.Reply.TheVariants as reply
use Rattle.call_rules.specs.declared.answer.Answer.{Answer}
use Rattle.call_rules.specs.declared.answer.Answer.TheVariants as answer
use Rattle.call_rules.specs.declared.want.Want.{Want}
use Rattle.call_rules.specs.declared.want.Want.TheVariants as want
use Rattle.call_rules.specs.Opening.{opens_file}
use Rattle.call_rules.specs.Scripts.{wants, where_packed, named_wants, begun_wants, path_wants}
use Rattle.call_rules.specs.Walks.{Walked, Asks, Fails, There, Strays, walk, walked, root_of}
use Rattle.trace_book.specs.Names.{components}
use Rattle.call_rules.specs.Words.{is_badly_named}
use Rattle.lawful_trace.specs.of_tree_model.declared.accepted.Waiting.{Waiting}
use Rattle.lawful_trace.specs.of_tree_model.Folds.{Trace}
use Rattle.lawful_trace.specs.Progress.{Answers, is_packed_in}
use Rattle.tree_laws.specs.Calls.{is_request, script_as}

-- the two ask the same, or the first asks nothing
abbrev pub AsksSame : Want → Want → Type 0
AsksSame v w = is_request v ≡ true → w ≡ v

opens_same : (how : OpenMode) (free : Option ℕ) (file : FileId) (kind : Kind) (xs : List Answer) → AsksSame (opens_file how None file kind xs) (opens_file how free file kind xs)
opens_same how free file Dir xs r = refl
opens_same how free file File [] r = refl
opens_same how (Some fd) file File (answer.Opened i ino ∷ []) r = absurd (true_false (sym r))
opens_same how None file File (answer.Opened i ino ∷ []) r = refl
opens_same how free file File (answer.Opened i ino ∷ x ∷ xs) r = absurd (true_false (sym r))
opens_same how (Some fd) file File (answer.Reading i version ∷ []) r = absurd (true_false (sym r))
opens_same how None file File (answer.Reading i version ∷ []) r = refl
opens_same how free file File (answer.Reading i version ∷ x ∷ xs) r = absurd (true_false (sym r))
opens_same how free file File (answer.Refused why ∷ []) r = refl
opens_same how free file File (answer.Refused why ∷ x ∷ xs) r = absurd (true_false (sym r))
opens_same how free file File (_ ∷ xs) r = absurd (true_false (sym r))

-- a walk and what comes after it
walked_same : (mounts : List Mount) (path : List (List ℕ)) (xs : List Answer) (f g : FileId → Kind → List Answer → Want) → ((file : FileId) (kind : Kind) (ys : List Answer) → AsksSame (f file kind ys) (g file kind ys)) → AsksSame (walked mounts path xs f) (walked mounts path xs g)
walked_same mounts path xs f g same = over (walk mounts path [] (root_of 0) Dir xs) refl
  where
    over : (x : Walked) → walk mounts path [] (root_of 0) Dir xs ≡ x → AsksSame (walked mounts path xs f) (walked mounts path xs g)
    over (Asks dir name) e = rw e (λ r. refl)
    over (Fails why) e = rw e (λ r. refl)
    over (There file kind ys) e = rw e (same file kind ys)
    over Strays e = rw e (λ r. refl)

path_same : (mounts : List Mount) (free : Option ℕ) (id : CallId) (words : Call) (xs : List Answer) → AsksSame (path_wants mounts None id words xs) (path_wants mounts free id words xs)
path_same mounts free id (call.Open path how) xs = walked_same mounts (components path) xs (opens_file how None) (opens_file how free) (λ file kind ys. opens_same how free file kind ys)
path_same mounts free id _ xs = λ r. refl

begun_same : (mounts : List Mount) (free : Option ℕ) (words : Call) (b : Beginning) (xs : List Answer) → AsksSame (begun_wants mounts None words b xs) (begun_wants mounts free words b xs)
begun_same mounts free words (Denied why) xs = λ r. refl
begun_same mounts free words (Uses epoch inst) xs = λ r. refl
begun_same mounts free words (Walks id) xs = path_same mounts free id words xs
begun_same mounts free words (Reopens kept last) xs = λ r. refl
begun_same mounts free words Frees xs = λ r. refl

named_same : (mounts : List Mount) (free : Option ℕ) (words : Call) (b : Beginning) (xs : List Answer) → AsksSame (named_wants mounts None words b xs) (named_wants mounts free words b xs)
named_same mounts free words b xs = over (is_badly_named mounts words)
  where
    over : (x : Bool) → AsksSame (cond x (want.Give (reply.No BadName)) (begun_wants mounts None words b xs)) (cond x (want.Give (reply.No BadName)) (begun_wants mounts free words b xs))
    over true = λ r. refl
    over false = begun_same mounts free words b xs

-- what is packed asks what its script asks
packed_request : (p : ℕ → Bool) (v : Want) → is_request (where_packed p v) ≡ true → is_request v ≡ true
packed_request p (want.Look file what) r = refl
packed_request p (want.Open file how) r = refl
packed_request p (want.OpenToMend file) r = refl
packed_request p (want.Make group kind sites) r = refl
packed_request p (want.Do i o) r = refl
packed_request p (want.Close i) r = refl
packed_request p (want.Give reply) r = r
packed_request p want.Never r = r

wants_same : (mounts : List Mount) (p : ℕ → Bool) (free : Option ℕ) (words : Call) (b : Beginning) (xs : List Answer) → AsksSame (wants mounts p None words b xs) (wants mounts p free words b xs)
wants_same mounts p free words b xs r = ap (where_packed p) (named_same mounts free words b xs (packed_request p (named_wants mounts None words b xs) r))

pub free_same : (c : Config) (before : Trace) (o : Option Waiting) (b : Option Beginning) (free : Option ℕ) (xs : Answers) → AsksSame (script_as c before o b None xs) (script_as c before o b free xs)
free_same c before None b free xs r = refl
free_same c before (Some w) None free xs r = refl
free_same c before (Some w) (Some b) free xs r = wants_same c.mounts (is_packed_in c before w.epoch) free w.words b xs r
