-- An open that gives a descriptor was answered last by the instance that was granted to it.
use Rattle.std.proofs.Common.{◌≡◌, ℕ, Bool, true, false, cond, List, [], ◌∷◌, ◌++◌, Option, Some, None, refl, ◌∙◌, ap, subst}
use Rattle.locus_ids.specs.declared.config.Mount.{Mount}
use Rattle.locus_ids.specs.declared.ids.CallId.{CallId}
use Rattle.locus_ids.specs.declared.ids.EpochId.{EpochId}
use Rattle.locus_ids.specs.declared.ids.FileId.{FileId}
use Rattle.locus_ids.specs.declared.ids.Kind.{Kind}
use Rattle.locus_ids.specs.declared.ids.Kind.TheVariants as kind
use Rattle.locus_ids.specs.declared.ids.Mode.{Mode}
use Rattle.locus_ids.specs.declared.ids.Serial.{Serial}
use Rattle.locus_ids.specs.declared.refusal.Refusal.TheVariants as refusal
use Rattle.trace_book.specs.Names.{components}
use Rattle.trace_book.specs.declared.call.OpenMode.{OpenMode}
use Rattle.trace_book.specs.declared.call.Call.TheVariants as call
use Rattle.trace_book.specs.declared.descriptor.Beginning.TheVariants as begins
use Rattle.trace_book.specs.declared.descriptor.Descriptor.{Descriptor}
use Rattle.trace_book.specs.declared.reply.Reply.{Reply}
use Rattle.trace_book.specs.declared.reply.Reply.TheVariants as reply
use Rattle.call_rules.specs.declared.answer.Answer.{Answer}
use Rattle.call_rules.specs.declared.answer.Answer.TheVariants as answer
use Rattle.call_rules.specs.declared.want.Want.{Want}
use Rattle.call_rules.specs.declared.want.Want.TheVariants as want
use Rattle.call_rules.specs.Opening.{opens_file}
use Rattle.call_rules.specs.Scripts.{named_wants, path_wants, where_packed, wants}
use Rattle.call_rules.specs.Walks.{Walked, Asks, Fails, There, Strays, walk, walked, root_of, passes, mounted_in}
use Rattle.call_rules.specs.Words.{is_badly_named}
use Rattle.role_steps.specs.Using.{last_opened}
use Rattle.lawful_trace.specs.Progress.{Answers}
use Rattle.tree_laws.proofs.Awaiting.{OpensIt}
use Rattle.store_laws.proofs.ScriptFitting.{Script}
use Rattle.store_laws.proofs.ScriptSoundCalls.{goes, goes_walked}

-- ---- the last answer opens ----

-- an open of a file is answered by this instance
abbrev pub OpensFile : Answer → Serial → Type 0
OpensFile (answer.Opened inst ino) i = inst ≡ i
OpensFile (answer.Reading inst version) i = inst ≡ i
OpensFile _ i = ⊥

pub record EndsOpen (xs : Answers) : Type 0 where
  pub before : Answers
  pub inst : Serial
  pub last : Answer
  pub opens : OpensFile last inst
  pub is : xs ≡ before ++ last ∷ []

more_open : (a : Answer) (xs : Answers) → EndsOpen xs → EndsOpen (a ∷ xs)
more_open a xs k = record { before = a ∷ k.before; inst = k.inst; last = k.last; opens = k.opens; is = ap (λ (ys : Answers). a ∷ ys) k.is }

-- no reply with a descriptor
abbrev pub NotOpened : Want → Type 0
NotOpened (want.Give (reply.Opened fd)) = ⊥
NotOpened _ = Unit {0}

-- where the script gives a descriptor, its last answer has opened
abbrev LastOpens : Script → Answers → Type 0
LastOpens k xs = (fd : ℕ) → k xs ≡ want.Give (reply.Opened fd) → EndsOpen xs

file_last : (m : OpenMode) (free : Option ℕ) (f : FileId) (k : Kind) (xs : Answers) → LastOpens (opens_file m free f k) xs
file_last m free f kind.Dir xs fd e = absurd (subst NotOpened e tt)
file_last m free f kind.File [] fd e = absurd (subst NotOpened e tt)
file_last m free f kind.File (answer.Opened i ino ∷ []) fd e = record { before = []; inst = i; last = answer.Opened i ino; opens = refl; is = refl }
file_last m free f kind.File (answer.Reading i version ∷ []) fd e = record { before = []; inst = i; last = answer.Reading i version; opens = refl; is = refl }
file_last m None f kind.File (answer.Reading i version ∷ (a ∷ rest)) fd e = absurd (subst NotOpened e tt)
file_last m (Some n) f kind.File (answer.Reading i version ∷ (a ∷ rest)) fd e = absurd (subst NotOpened e tt)
file_last m None f kind.File (answer.Opened i ino ∷ (a ∷ rest)) fd e = absurd (subst NotOpened e tt)
file_last m (Some n) f kind.File (answer.Opened i ino ∷ (a ∷ rest)) fd e = absurd (subst NotOpened e tt)
file_last m None f kind.File (answer.Refused why ∷ []) fd e = absurd (subst NotOpened e tt)
file_last m (Some n) f kind.File (answer.Refused why ∷ []) fd e = absurd (subst NotOpened e tt)
file_last m None f kind.File (answer.Refused why ∷ (a ∷ rest)) fd e = absurd (subst NotOpened e tt)
file_last m (Some n) f kind.File (answer.Refused why ∷ (a ∷ rest)) fd e = absurd (subst NotOpened e tt)
file_last m None f kind.File (a ∷ rest) fd e = absurd (subst NotOpened e tt)
file_last m (Some n) f kind.File (a ∷ rest) fd e = absurd (subst NotOpened e tt)

walk_last : (mounts : List Mount) (path : List (List ℕ)) (reached : List ℕ) (at : FileId) (k : Kind) (after : FileId → Kind → Script) → ((there : FileId) (found : Kind) (ys : Answers) → LastOpens (after there found) ys) → (xs : Answers) → LastOpens (λ ys. goes after (walk mounts path reached at k ys)) xs
walk_last mounts [] reached at k after h xs = h at k xs
walk_last mounts (name ∷ path) reached at kind.File after h xs = λ fd e. absurd (subst NotOpened e tt)
walk_last mounts (name ∷ path) reached at kind.Dir after h xs = over (λ next found ys. walk_last mounts path name next found after h ys) (mounted_in mounts at name) xs
  where
    over : ((next : FileId) (found : Kind) (ys : Answers) → LastOpens (λ zs. goes after (walk mounts path name next found zs)) ys) → (o : Option ℕ) (ys : Answers) → LastOpens (λ zs. goes after (passes (walk mounts path name) at name o zs)) ys
    over further (Some group) ys = further (root_of group) kind.Dir ys
    over further None [] = λ fd e. absurd (subst NotOpened e tt)
    over further None (answer.Entered ino found ∷ ys) = λ fd e. more_open (answer.Entered ino found) ys (further (record { group = at.group; ino = ino }) found ys fd e)
    over further None (answer.Refused why ∷ ys) = λ fd e. absurd (subst NotOpened e tt)
    over further None (a ∷ ys) = λ fd e. absurd (subst NotOpened e tt)

-- what is given but for want of storage is given by the script
pub given_packed : (pk : ℕ → Bool) (w : Want) (r : Reply) → (want.Give (reply.No refusal.NoStorage) ≡ want.Give r → ⊥) → where_packed pk w ≡ want.Give r → w ≡ want.Give r
given_packed pk w r other e = over w e
  where
    by_test : (x : Bool) (y : Want) → cond x y (want.Give (reply.No refusal.NoStorage)) ≡ want.Give r → y ≡ want.Give r
    by_test true y k = k
    by_test false y k = absurd (other k)

    over : (y : Want) → where_packed pk y ≡ want.Give r → y ≡ want.Give r
    over (want.Look f w) k = by_test (pk f.group) (want.Look f w) k
    over (want.Open f m) k = by_test (pk f.group) (want.Open f m) k
    over (want.OpenToMend f) k = by_test (pk f.group) (want.OpenToMend f) k
    over (want.Make g kind sites) k = by_test (pk g) (want.Make g kind sites) k
    over (want.Do i o) k = k
    over (want.Close i) k = k
    over (want.Give y) k = k
    over want.Never k = k

-- an open that gives a descriptor was answered last by its instance
pub gives_last : (mounts : List Mount) (pk : ℕ → Bool) (free : Option ℕ) (id : CallId) (path : List ℕ) (m : OpenMode) (xs : Answers) (fd : ℕ) → wants mounts pk free (call.Open path m) (begins.Walks id) xs ≡ want.Give (reply.Opened fd) → EndsOpen xs
gives_last mounts pk free id path m xs fd e = over (is_badly_named mounts (call.Open path m)) (given_packed pk (named_wants mounts free (call.Open path m) (begins.Walks id) xs) (reply.Opened fd) (λ k. subst NotOpened k tt) e)
  where
    over : (b : Bool) → cond b (want.Give (reply.No refusal.BadName)) (path_wants mounts free id (call.Open path m) xs) ≡ want.Give (reply.Opened fd) → EndsOpen xs
    over true k = absurd (subst NotOpened k tt)
    over false k = walk_last mounts (components path) [] (root_of 0) kind.Dir (opens_file m free) (λ f found ys. file_last m free f found ys) xs fd (goes_walked mounts (components path) (opens_file m free) xs ∙ k)

-- ---- what was opened last ----

-- the descriptor that stands for what was opened last
abbrev pub opened_from : Option Descriptor → Mode → EpochId → Answers → Option Descriptor
opened_from o m e [] = o
opened_from o m e (answer.Opened inst ino ∷ rest) = opened_from (Some (record { mode = m; epoch = e; inst = inst; steady = None })) m e rest
opened_from o m e (answer.Reading inst version ∷ rest) = opened_from (Some (record { mode = m; epoch = e; inst = inst; steady = None })) m e rest
opened_from o m e (_ ∷ rest) = opened_from o m e rest

pub opened_more : (o : Option Descriptor) (m : Mode) (e : EpochId) (xs : Answers) (a : Answer) (i : Serial) → OpensFile a i → opened_from o m e (xs ++ a ∷ []) ≡ Some (record { mode = m; epoch = e; inst = i; steady = None })
opened_more o m e [] (answer.Opened inst ino) i is = ap (λ (j : Serial). Some (record { mode = m; epoch = e; inst = j; steady = None })) is
opened_more o m e [] (answer.Reading inst version) i is = ap (λ (j : Serial). Some (record { mode = m; epoch = e; inst = j; steady = None })) is
opened_more o m e [] _ i is = absurd is
opened_more o m e (answer.Opened inst n ∷ rest) a i is = opened_more (Some (record { mode = m; epoch = e; inst = inst; steady = None })) m e rest a i is
opened_more o m e (answer.Reading inst version ∷ rest) a i is = opened_more (Some (record { mode = m; epoch = e; inst = inst; steady = None })) m e rest a i is
opened_more o m e (x ∷ rest) a i is = opened_more o m e rest a i is

pub opened_same : (o : Option Descriptor) (m : Mode) (e : EpochId) (xs : Answers) (a : Answer) → ((i : Serial) → OpensIt a i → ⊥) → opened_from o m e (xs ++ a ∷ []) ≡ opened_from o m e xs
opened_same o m e [] a h = over a h
  where
    over : (b : Answer) → ((i : Serial) → OpensIt b i → ⊥) → opened_from o m e (b ∷ []) ≡ o
    over (answer.Opened i ino) k = absurd (k i refl)
    over (answer.Reading i version) k = absurd (k i refl)
    over b k = refl
opened_same o m e (answer.Opened inst n ∷ rest) a h = opened_same (Some (record { mode = m; epoch = e; inst = inst; steady = None })) m e rest a h
opened_same o m e (answer.Reading inst version ∷ rest) a h = opened_same (Some (record { mode = m; epoch = e; inst = inst; steady = None })) m e rest a h
opened_same o m e (x ∷ rest) a h = opened_same o m e rest a h

pub last_more : (s : Serial) (xs : Answers) (a : Answer) (i : Serial) → OpensFile a i → last_opened s (xs ++ a ∷ []) ≡ i
last_more s [] (answer.Opened inst ino) i is = is
last_more s [] (answer.Reading inst version) i is = is
last_more s [] _ i is = absurd is
last_more s (answer.Opened inst n ∷ rest) a i is = last_more inst rest a i is
last_more s (answer.Reading inst version ∷ rest) a i is = last_more inst rest a i is
last_more s (x ∷ rest) a i is = last_more s rest a i is

-- ---- what an open asks ----

-- of opens, only this one
abbrev pub OpensSo : OpenMode → Want → Type 0
OpensSo m (want.Open f n) = n ≡ m
OpensSo m (want.OpenToMend f) = ⊥
OpensSo m (want.Make g kind sites) = ⊥
OpensSo m _ = Unit {0}

file_so : (m : OpenMode) (free : Option ℕ) (f : FileId) (k : Kind) (xs : Answers) → OpensSo m (opens_file m free f k xs)
file_so m free f kind.Dir xs = tt
file_so m free f kind.File [] = refl
file_so m (Some n) f kind.File (answer.Opened i ino ∷ []) = tt
file_so m None f kind.File (answer.Opened i ino ∷ []) = tt
file_so m (Some n) f kind.File (answer.Opened i ino ∷ (a ∷ rest)) = tt
file_so m None f kind.File (answer.Opened i ino ∷ (a ∷ rest)) = tt
file_so m (Some n) f kind.File (answer.Reading i version ∷ []) = tt
file_so m None f kind.File (answer.Reading i version ∷ []) = tt
file_so m (Some n) f kind.File (answer.Reading i version ∷ (a ∷ rest)) = tt
file_so m None f kind.File (answer.Reading i version ∷ (a ∷ rest)) = tt
file_so m (Some n) f kind.File (answer.Refused why ∷ []) = tt
file_so m None f kind.File (answer.Refused why ∷ []) = tt
file_so m (Some n) f kind.File (answer.Refused why ∷ (a ∷ rest)) = tt
file_so m None f kind.File (answer.Refused why ∷ (a ∷ rest)) = tt
file_so m (Some n) f kind.File (a ∷ rest) = tt
file_so m None f kind.File (a ∷ rest) = tt

packed_so : (m : OpenMode) (pk : ℕ → Bool) (w : Want) → OpensSo m w → OpensSo m (where_packed pk w)
packed_so m pk w h = over w h
  where
    by_test : (x : Bool) (y : Want) → OpensSo m y → OpensSo m (cond x y (want.Give (reply.No refusal.NoStorage)))
    by_test true y k = k
    by_test false y k = tt

    over : (y : Want) → OpensSo m y → OpensSo m (where_packed pk y)
    over (want.Look f w) k = by_test (pk f.group) (want.Look f w) k
    over (want.Open f n) k = by_test (pk f.group) (want.Open f n) k
    over (want.OpenToMend f) k = absurd k
    over (want.Make g kind sites) k = absurd k
    over (want.Do i o) k = k
    over (want.Close i) k = k
    over (want.Give r) k = k
    over want.Never k = k

walked_so : (m : OpenMode) (mounts : List Mount) (path : List (List ℕ)) (after : FileId → Kind → Script) → ((f : FileId) (k : Kind) (ys : Answers) → OpensSo m (after f k ys)) → (xs : Answers) → OpensSo m (walked mounts path xs after)
walked_so m mounts path after h xs = subst (OpensSo m) (goes_walked mounts path after xs) (over (walk mounts path [] (root_of 0) kind.Dir xs))
  where
    over : (w : Walked) → OpensSo m (goes after w)
    over (Asks dir name) = tt
    over (Fails why) = tt
    over (There at k rest) = h at k rest
    over Strays = tt

-- an open that walks asks its own open alone
pub open_so : (mounts : List Mount) (pk : ℕ → Bool) (free : Option ℕ) (id : CallId) (path : List ℕ) (m : OpenMode) (xs : Answers) → OpensSo m (wants mounts pk free (call.Open path m) (begins.Walks id) xs)
open_so mounts pk free id path m xs = packed_so m pk (named_wants mounts free (call.Open path m) (begins.Walks id) xs) (over (is_badly_named mounts (call.Open path m)))
  where
    over : (b : Bool) → OpensSo m (cond b (want.Give (reply.No refusal.BadName)) (path_wants mounts free id (call.Open path m) xs))
    over true = tt
    over false = walked_so m mounts (components path) (opens_file m free) (λ f k ys. file_so m free f k ys) xs
