-- Each call's script asks operations and closes of what the call has alone: what it begins with, and what its opens were
-- answered.
use Rattle.std.proofs.Common.{◌≡◌, ℕ, Bool, true, false, cond, List, [], ◌∷◌, Option, Some, None, refl, sym, subst}
use Rattle.locus_ids.specs.declared.ids.CallId.{CallId}
use Rattle.locus_ids.specs.declared.config.Mount.{Mount}
use Rattle.locus_ids.specs.declared.ids.FileId.{FileId}
use Rattle.locus_ids.specs.declared.ids.Kind.{Kind}
use Rattle.locus_ids.specs.declared.ids.Kind.TheVariants as kind
use Rattle.locus_ids.specs.declared.ids.Serial.{Serial}
use Rattle.locus_ids.specs.declared.refusal.Refusal.TheVariants as refusal
use Rattle.trace_book.specs.Messages.{message_name}
use Rattle.trace_book.specs.Names.{components, last_of, but_last}
use Rattle.trace_book.specs.declared.call.Call.{Call}
use Rattle.trace_book.specs.declared.call.Call.TheVariants as call
use Rattle.trace_book.specs.declared.call.OpenMode.{OpenMode}
use Rattle.trace_book.specs.declared.descriptor.Beginning.{Beginning}
use Rattle.trace_book.specs.declared.descriptor.Beginning.TheVariants as begins
use Rattle.trace_book.specs.declared.operation.Op.{Op}
use Rattle.trace_book.specs.declared.operation.Op.TheVariants as op
use Rattle.trace_book.specs.declared.operation.What.TheVariants as what
use Rattle.trace_book.specs.declared.reply.Reply.TheVariants as reply
use Rattle.call_rules.specs.Mailing.{tells_name, shown_messages}
use Rattle.call_rules.specs.declared.answer.Answer.{Answer}
use Rattle.call_rules.specs.declared.answer.Answer.TheVariants as answer
use Rattle.call_rules.specs.declared.want.Want.{Want}
use Rattle.call_rules.specs.declared.want.Want.TheVariants as want
use Rattle.call_rules.specs.Opening.{opens_file, op_wants, uses_wants, lists, describes, reply_to, shown_in, Shows}
use Rattle.call_rules.specs.Scripts.{path_wants, begun_wants, named_wants, where_packed, wants}
use Rattle.call_rules.specs.Walks.{Walked, Asks, Fails, There, Strays, root_of, mounted_in, passes, walk, walked}
use Rattle.call_rules.specs.Words.{is_badly_named}
use Rattle.tree_laws.specs.Holding.{Instances, begun_with, had_after, IsOf}
use Rattle.tree_laws.proofs.Holding.{Script, Safe, safe_same, never_safe, give_safe, One, one_own, close_safe, probes_safe, opens_dir_safe, finds_safe, renames_safe, reopen_safe, mend_safe}

-- ---- open, list and stat ----

opens_file_safe : (m : OpenMode) (free : Option ℕ) (file : FileId) (k : Kind) (own : Instances) (xs : List Answer) → Safe (opens_file m free file k) own xs
opens_file_safe m free file kind.Dir own xs = give_safe (reply.No refusal.IsDir) own xs
opens_file_safe m free file kind.File own [] = tt
opens_file_safe m (Some fd) file kind.File own (answer.Opened i ino ∷ []) = λ new. tt
opens_file_safe m None file kind.File own (answer.Opened i ino ∷ []) = λ new. tt
opens_file_safe m (Some fd) file kind.File own (answer.Opened i ino ∷ (a ∷ xs)) = λ new fresh. never_safe (had_after (want.Give (reply.Opened fd)) a (had_after (want.Open file m) (answer.Opened i ino) own)) xs
opens_file_safe m None file kind.File own (answer.Opened i ino ∷ (a ∷ xs)) = λ new fresh. never_safe (had_after want.Never a (had_after (want.Open file m) (answer.Opened i ino) own)) xs
opens_file_safe m (Some fd) file kind.File own (answer.Reading i version ∷ []) = λ new. tt
opens_file_safe m None file kind.File own (answer.Reading i version ∷ []) = λ new. tt
opens_file_safe m (Some fd) file kind.File own (answer.Reading i version ∷ (a ∷ xs)) = λ new fresh. never_safe (had_after (want.Give (reply.Opened fd)) a (had_after (want.Open file m) (answer.Reading i version) own)) xs
opens_file_safe m None file kind.File own (answer.Reading i version ∷ (a ∷ xs)) = λ new fresh. never_safe (had_after want.Never a (had_after (want.Open file m) (answer.Reading i version) own)) xs
opens_file_safe m None file kind.File own (answer.Refused why ∷ []) = λ new. tt
opens_file_safe m (Some fd) file kind.File own (answer.Refused why ∷ []) = λ new. tt
opens_file_safe m None file kind.File own (answer.Refused why ∷ (a ∷ xs)) = λ new fresh. never_safe (had_after (want.Give (reply.No why)) a own) xs
opens_file_safe m (Some fd) file kind.File own (answer.Refused why ∷ (a ∷ xs)) = λ new fresh. never_safe (had_after (want.Give (reply.No why)) a own) xs
opens_file_safe m None file kind.File own (a ∷ xs) = λ new. never_safe (had_after (want.Open file m) a own) xs
opens_file_safe m (Some fd) file kind.File own (a ∷ xs) = λ new. never_safe (had_after (want.Open file m) a own) xs

lists_safe : (shows : Shows) (reached : List ℕ) (at : FileId) (k : Kind) (own : Instances) (xs : List Answer) → Safe (lists shows reached at k) own xs
lists_safe shows reached at kind.File own xs = give_safe (reply.No (refusal.NotDir reached)) own xs
lists_safe shows reached at kind.Dir own [] = tt
lists_safe shows reached at kind.Dir own (answer.Showed names ∷ []) = λ new. tt
lists_safe shows reached at kind.Dir own (answer.Showed names ∷ (a ∷ xs)) = λ new fresh. never_safe (had_after (want.Give (reply.Names (shows at names))) a own) xs
lists_safe shows reached at kind.Dir own (answer.Refused why ∷ []) = λ new. tt
lists_safe shows reached at kind.Dir own (answer.Refused why ∷ (a ∷ xs)) = λ new fresh. never_safe (had_after (want.Give (reply.No why)) a own) xs
lists_safe shows reached at kind.Dir own (a ∷ xs) = λ new. never_safe (had_after (want.Look at what.List) a own) xs

describes_safe : (at : FileId) (k : Kind) (own : Instances) (xs : List Answer) → Safe (describes at k) own xs
describes_safe at k own [] = tt
describes_safe at k own (answer.Described found size stamp ∷ []) = λ new. tt
describes_safe at k own (answer.Described found size stamp ∷ (a ∷ xs)) = λ new fresh. never_safe (had_after (want.Give (reply.Stat found at size stamp)) a own) xs
describes_safe at k own (answer.Refused why ∷ []) = λ new. tt
describes_safe at k own (answer.Refused why ∷ (a ∷ xs)) = λ new fresh. never_safe (had_after (want.Give (reply.No why)) a own) xs
describes_safe at k own (a ∷ xs) = λ new. never_safe (had_after (want.Look at what.Stat) a own) xs

-- ---- a call on a descriptor ----

op_safe : (p : Serial) (o : Op) (xs : List Answer) → Safe (op_wants p o) (One p) xs
op_safe p o [] = one_own p
op_safe p o (answer.Did result ∷ []) = λ new. tt
op_safe p o (answer.Did result ∷ (a ∷ xs)) = λ new fresh. never_safe (had_after (want.Give (reply_to result)) a (One p)) xs
op_safe p o (answer.Refused why ∷ []) = λ new. tt
op_safe p o (answer.Refused why ∷ (a ∷ xs)) = λ new fresh. never_safe (had_after (want.Give (reply.No why)) a (One p)) xs
op_safe p o (a ∷ xs) = λ new. never_safe (had_after (want.Do p o) a (One p)) xs

uses_safe : (words : Call) (p : Serial) (xs : List Answer) → Safe (uses_wants words p) (One p) xs
uses_safe (call.Read fd at len) p xs = op_safe p (op.Read at len) xs
uses_safe (call.Write fd at bytes) p xs = op_safe p (op.Write at bytes) xs
uses_safe (call.Cut fd len) p xs = op_safe p (op.Cut len) xs
uses_safe (call.Commit fd) p xs = op_safe p op.Commit xs
uses_safe (call.Abort fd) p xs = op_safe p op.Abort xs
uses_safe (call.Close fd) p xs = close_safe p (One p) xs (one_own p)
uses_safe _ p xs = never_safe (One p) xs

-- ---- walks ----

-- where a walk has come, and what comes after it
abbrev goes : (FileId → Kind → List Answer → Want) → Walked → Want
goes after (Asks dir name) = want.Look dir (what.Name name)
goes after (Fails why) = want.Give (reply.No why)
goes after (There at k rest) = after at k rest
goes after Strays = want.Never

goes_walked : (mounts : List Mount) (path : List (List ℕ)) (after : FileId → Kind → List Answer → Want) (xs : List Answer) → goes after (walk mounts path [] (root_of 0) kind.Dir xs) ≡ walked mounts path xs after
goes_walked mounts path after xs = over (walk mounts path [] (root_of 0) kind.Dir xs) refl
  where
    over : (w : Walked) → walk mounts path [] (root_of 0) kind.Dir xs ≡ w → goes after w ≡ walked mounts path xs after
    over (Asks dir name) e = rw e refl
    over (Fails why) e = rw e refl
    over (There at k rest) e = rw e refl
    over Strays e = rw e refl

walk_safe : (mounts : List Mount) (path : List (List ℕ)) (reached : List ℕ) (at : FileId) (k : Kind) (after : FileId → Kind → List Answer → Want) (own : Instances) (xs : List Answer) → ((there : FileId) (found : Kind) (more : Instances) (ys : List Answer) → Safe (after there found) more ys) →
    Safe (λ ys. goes after (walk mounts path reached at k ys)) own xs
walk_safe mounts [] reached at k after own xs h = h at k own xs
walk_safe mounts (name ∷ path) reached at kind.File after own xs h = give_safe (reply.No (refusal.NotDir reached)) own xs
walk_safe mounts (name ∷ path) reached at kind.Dir after own xs h = over (λ next found ys. walk_safe mounts path name next found after own ys h) (mounted_in mounts at name) xs
  where
    over : ((next : FileId) (found : Kind) (ys : List Answer) → Safe (λ zs. goes after (walk mounts path name next found zs)) own ys) → (o : Option ℕ) (ys : List Answer) → Safe (λ zs. goes after (passes (walk mounts path name) at name o zs)) own ys
    over further (Some group) ys = further (root_of group) kind.Dir ys
    over further None [] = tt
    over further None (answer.Entered ino found ∷ ys) = λ new. further (record { group = at.group; ino = ino }) found ys
    over further None (answer.Refused why ∷ ys) = λ new. give_safe (reply.No why) own ys
    over further None (a ∷ ys) = λ new. never_safe (had_after (want.Look at (what.Name name)) a own) ys

walked_safe : (mounts : List Mount) (path : List (List ℕ)) (after : FileId → Kind → List Answer → Want) (own : Instances) (xs : List Answer) → ((there : FileId) (found : Kind) (more : Instances) (ys : List Answer) → Safe (after there found) more ys) →
    Safe (λ ys. walked mounts path ys after) own xs
walked_safe mounts path after own xs h = safe_same (λ ys. goes after (walk mounts path [] (root_of 0) kind.Dir ys)) (λ ys. walked mounts path ys after) own xs (goes_walked mounts path after) (walk_safe mounts path [] (root_of 0) kind.Dir after own xs h)

path_safe : (mounts : List Mount) (free : Option ℕ) (id : CallId) (words : Call) (own : Instances) (xs : List Answer) → Safe (path_wants mounts free id words) own xs
path_safe mounts free id (call.Create path sites) own xs = walked_safe mounts (but_last (components path)) _ own xs (λ there found more ys. opens_dir_safe _ _ there found more ys (λ p zs. probes_safe p there.group (last_of (components path)) kind.File sites [] reply.Made zs))
path_safe mounts free id (call.MakeDir path) own xs = walked_safe mounts (but_last (components path)) _ own xs (λ there found more ys. opens_dir_safe _ _ there found more ys (λ p zs. probes_safe p there.group (last_of (components path)) kind.Dir None [] reply.Made zs))
path_safe mounts free id (call.Unlink path) own xs = walked_safe mounts (but_last (components path)) _ own xs (λ there found more ys. opens_dir_safe _ _ there found more ys (λ p zs. finds_safe kind.File p there.group (last_of (components path)) zs))
path_safe mounts free id (call.RemoveDir path) own xs = walked_safe mounts (but_last (components path)) _ own xs (λ there found more ys. opens_dir_safe _ _ there found more ys (λ p zs. finds_safe kind.Dir p there.group (last_of (components path)) zs))
path_safe mounts free id (call.Rename path name) own xs = walked_safe mounts (but_last (components path)) _ own xs (λ there found more ys. opens_dir_safe _ _ there found more ys (λ p zs. renames_safe p (last_of (components path)) name zs))
path_safe mounts free id (call.List path) own xs = walked_safe mounts (components path) (lists (shown_in mounts) (last_of (components path))) own xs (λ there found more ys. lists_safe (shown_in mounts) (last_of (components path)) there found more ys)
path_safe mounts free id (call.Stat path) own xs = walked_safe mounts (components path) describes own xs (λ there found more ys. describes_safe there found more ys)
path_safe mounts free id (call.Mail path bytes) own xs = walked_safe mounts (components path) _ own xs (λ there found more ys. opens_dir_safe _ _ there found more ys (λ p zs. probes_safe p there.group (message_name id) kind.File None bytes (tells_name (message_name id)) zs))
path_safe mounts free id (call.Mails path) own xs = walked_safe mounts (components path) (lists shown_messages (last_of (components path))) own xs (λ there found more ys. lists_safe shown_messages (last_of (components path)) there found more ys)
path_safe mounts free id (call.Open path how) own xs = walked_safe mounts (components path) (opens_file how free) own xs (λ there found more ys. opens_file_safe how free there found more ys)
path_safe mounts free id (call.Mend file) own xs = mend_safe file own xs
path_safe mounts free id _ own xs = never_safe own xs

begun_safe : (mounts : List Mount) (free : Option ℕ) (words : Call) (b : Beginning) (xs : List Answer) → Safe (begun_wants mounts free words b) (begun_with b) xs
begun_safe mounts free words (begins.Denied why) xs = give_safe (reply.No why) (begun_with (begins.Denied why)) xs
begun_safe mounts free words (begins.Uses e i) xs = uses_safe words i xs
begun_safe mounts free words (begins.Walks id) xs = path_safe mounts free id words (begun_with (begins.Walks id)) xs
begun_safe mounts free words (begins.Reopens kept last) xs = reopen_safe words kept last (begun_with (begins.Reopens kept last)) xs
begun_safe mounts free words begins.Frees xs = give_safe (reply.Closed None) (begun_with begins.Frees) xs

named_safe : (mounts : List Mount) (free : Option ℕ) (words : Call) (b : Beginning) (xs : List Answer) → Safe (named_wants mounts free words b) (begun_with b) xs
named_safe mounts free words b xs = over (is_badly_named mounts words)
  where
    over : (x : Bool) → Safe (λ ys. cond x (want.Give (reply.No refusal.BadName)) (begun_wants mounts free words b ys)) (begun_with b) xs
    over true = give_safe (reply.No refusal.BadName) (begun_with b) xs
    over false = begun_safe mounts free words b xs

-- ---- where no member has a pack ----

packed_of : (p : ℕ → Bool) (own : Instances) (w : Want) → IsOf own w → IsOf own (where_packed p w)
packed_of p own (want.Look file w) h = over (p file.group)
  where
    over : (b : Bool) → IsOf own (cond b (want.Look file w) (want.Give (reply.No refusal.NoStorage)))
    over true = tt
    over false = tt
packed_of p own (want.Open file how) h = over (p file.group)
  where
    over : (b : Bool) → IsOf own (cond b (want.Open file how) (want.Give (reply.No refusal.NoStorage)))
    over true = tt
    over false = tt
packed_of p own (want.OpenToMend file) h = over (p file.group)
  where
    over : (b : Bool) → IsOf own (cond b (want.OpenToMend file) (want.Give (reply.No refusal.NoStorage)))
    over true = tt
    over false = tt
packed_of p own (want.Make group k sites) h = over (p group)
  where
    over : (b : Bool) → IsOf own (cond b (want.Make group k sites) (want.Give (reply.No refusal.NoStorage)))
    over true = tt
    over false = tt
packed_of p own _ h = h

-- what an answer leaves is the same, whether the group is packed or not
packed_had : (p : ℕ → Bool) (w : Want) (a : Answer) (own : Instances) → had_after (where_packed p w) a own ≡ had_after w a own
packed_had p (want.Look file w) a own = over (p file.group) a
  where
    over : (b : Bool) (a : Answer) → had_after (cond b (want.Look file w) (want.Give (reply.No refusal.NoStorage))) a own ≡ had_after (want.Look file w) a own
    over true a = refl
    over false (answer.Opened i ino) = refl
    over false (answer.Reading i version) = refl
    over false (answer.Merging i kept) = refl
    over false _ = refl
packed_had p (want.Open file how) a own = over (p file.group) a
  where
    over : (b : Bool) (a : Answer) → had_after (cond b (want.Open file how) (want.Give (reply.No refusal.NoStorage))) a own ≡ had_after (want.Open file how) a own
    over true a = refl
    over false (answer.Opened i ino) = refl
    over false (answer.Reading i version) = refl
    over false (answer.Merging i kept) = refl
    over false _ = refl
packed_had p (want.OpenToMend file) a own = over (p file.group) a
  where
    over : (b : Bool) (a : Answer) → had_after (cond b (want.OpenToMend file) (want.Give (reply.No refusal.NoStorage))) a own ≡ had_after (want.OpenToMend file) a own
    over true a = refl
    over false (answer.Opened i ino) = refl
    over false (answer.Reading i version) = refl
    over false (answer.Merging i kept) = refl
    over false _ = refl
packed_had p (want.Make group k sites) a own = over (p group) a
  where
    over : (b : Bool) (a : Answer) → had_after (cond b (want.Make group k sites) (want.Give (reply.No refusal.NoStorage))) a own ≡ had_after (want.Make group k sites) a own
    over true a = refl
    over false (answer.Opened i ino) = refl
    over false (answer.Reading i version) = refl
    over false (answer.Merging i kept) = refl
    over false _ = refl
packed_had p _ a own = refl

packed_safe : (p : ℕ → Bool) (k : Script) (own : Instances) (xs : List Answer) → Safe k own xs → Safe (λ ys. where_packed p (k ys)) own xs
packed_safe p k own [] h = packed_of p own (k []) h
packed_safe p k own (a ∷ xs) h = λ new. subst (λ (more : Instances). Safe (λ ys. where_packed p (k (a ∷ ys))) more xs) (sym (packed_had p (k []) a own)) (packed_safe p (λ ys. k (a ∷ ys)) (had_after (k []) a own) xs (h new))

-- what a call asks is asked of what it has
pub wants_safe : (mounts : List Mount) (p : ℕ → Bool) (free : Option ℕ) (words : Call) (b : Beginning) (xs : List Answer) → Safe (wants mounts p free words b) (begun_with b) xs
wants_safe mounts p free words b xs = packed_safe p (named_wants mounts free words b) (begun_with b) xs (named_safe mounts free words b xs)
