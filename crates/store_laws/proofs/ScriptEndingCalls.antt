-- Each call but an open has closed all that it opened when it has its reply.
use Rattle.std.proofs.Common.{◌≡◌, ℕ, Bool, true, false, cond, List, [], ◌∷◌, Option, Some, None, refl, sym, subst}
use Rattle.locus_ids.specs.declared.ids.CallId.{CallId}
use Rattle.locus_ids.specs.declared.config.Mount.{Mount}
use Rattle.locus_ids.specs.declared.ids.FileId.{FileId}
use Rattle.locus_ids.specs.declared.ids.Kind.{Kind}
use Rattle.locus_ids.specs.declared.ids.Kind.TheVariants as kind
use Rattle.locus_ids.specs.declared.ids.Serial.{Serial}
use Rattle.locus_ids.specs.declared.refusal.Refusal.TheVariants as refusal
use Rattle.trace_book.specs.Messages.{message_name}
use Rattle.trace_book.specs.Names.{but_last, components, last_of}
use Rattle.trace_book.specs.declared.call.Call.{Call}
use Rattle.trace_book.specs.declared.call.Call.TheVariants as call
use Rattle.trace_book.specs.declared.descriptor.Beginning.TheVariants as begins
use Rattle.trace_book.specs.declared.operation.What.TheVariants as what
use Rattle.trace_book.specs.declared.reply.Reply.TheVariants as reply
use Rattle.call_rules.specs.Mailing.{tells_name, shown_messages}
use Rattle.call_rules.specs.declared.answer.Answer.{Answer}
use Rattle.call_rules.specs.declared.answer.Answer.TheVariants as answer
use Rattle.call_rules.specs.declared.want.Want.{Want}
use Rattle.call_rules.specs.declared.want.Want.TheVariants as want
use Rattle.call_rules.specs.Making.{changes_dir, opens_dir, probes}
use Rattle.call_rules.specs.Naming.{renames}
use Rattle.call_rules.specs.Opening.{lists, describes, shown_in}
use Rattle.call_rules.specs.Removing.{finds}
use Rattle.call_rules.specs.Scripts.{path_wants, begun_wants, named_wants, where_packed, wants}
use Rattle.call_rules.specs.Walks.{walk, walked, root_of, passes, mounted_in}
use Rattle.call_rules.specs.Words.{is_badly_named}
use Rattle.tree_laws.specs.Holding.{Instances, had_after}
use Rattle.store_laws.proofs.ScriptFitting.{AllFit, Fits, Script}
use Rattle.store_laws.proofs.ScriptEnding.{Ends, GivesNone, IsNone, OneOf, describes_ends, finds_ends, give_ends, lists_ends, mend_ends, none_gives, opens_dir_ends, probes_ends, renames_ends, unfit}
use Rattle.store_laws.proofs.ScriptSoundCalls.{WalksWords, goes, goes_walked}

-- scripts that want the same
ends_same : (pk : ℕ → Bool) (k l : Script) (own : Instances) (xs : List Answer) → ((ys : List Answer) → k ys ≡ l ys) → Ends pk k own xs → Ends pk l own xs
ends_same pk k l own [] h s = subst (λ (w : Want). GivesNone (where_packed pk w) own) (h []) s
ends_same pk k l own (a ∷ xs) h s = λ fit. subst (λ (w : Want). Ends pk (λ ys. l (a ∷ ys)) (had_after w a own) xs) (h [])
    (ends_same pk (λ ys. k (a ∷ ys)) (λ ys. l (a ∷ ys)) (had_after (k []) a own) xs (λ ys. h (a ∷ ys)) (s (subst (λ (w : Want). Fits (where_packed pk w) a) (sym (h [])) fit)))

-- the call is no open
abbrev pub NotOpen : Call → Type 0
NotOpen (call.Open path m) = ⊥
NotOpen _ = Unit {0}

-- ---- walks ----

module _ (pk : ℕ → Bool) (own : Instances) (none : IsNone own) where
  walk_ends : (mounts : List Mount) (path : List (List ℕ)) (reached : List ℕ) (at : FileId) (k : Kind) (after : FileId → Kind → Script) → ((there : FileId) (found : Kind) (ys : List Answer) → Ends pk (after there found) own ys) → (xs : List Answer) →
      Ends pk (λ ys. goes after (walk mounts path reached at k ys)) own xs
  walk_ends mounts [] reached at k after h xs = h at k xs
  walk_ends mounts (name ∷ path) reached at kind.File after h xs = give_ends pk (reply.No (refusal.NotDir reached)) own none xs
  walk_ends mounts (name ∷ path) reached at kind.Dir after h xs = over (λ next found ys. walk_ends mounts path name next found after h ys) (mounted_in mounts at name) xs
    where
      over : ((next : FileId) (found : Kind) (ys : List Answer) → Ends pk (λ zs. goes after (walk mounts path name next found zs)) own ys) → (o : Option ℕ) (ys : List Answer) → Ends pk (λ zs. goes after (passes (walk mounts path name) at name o zs)) own ys
      over further (Some group) ys = further (root_of group) kind.Dir ys
      over further None [] = none_gives (pk at.group) (want.Look at (what.Name name)) own tt none
      over further None (answer.Entered ino found ∷ ys) = λ fit. further (record { group = at.group; ino = ino }) found ys
      over further None (answer.Refused why ∷ ys) = λ fit. give_ends pk (reply.No why) own none ys
      over further None (a ∷ ys) = λ fit. absurd (unfit (pk at.group) (want.Look at (what.Name name)) a (λ f. f) fit)

  walked_ends : (mounts : List Mount) (path : List (List ℕ)) (after : FileId → Kind → Script) → ((there : FileId) (found : Kind) (ys : List Answer) → Ends pk (after there found) own ys) → (xs : List Answer) → Ends pk (λ ys. walked mounts path ys after) own xs
  walked_ends mounts path after h xs = ends_same pk (λ ys. goes after (walk mounts path [] (root_of 0) kind.Dir ys)) (λ ys. walked mounts path ys after) own xs (goes_walked mounts path after) (walk_ends mounts path [] (root_of 0) kind.Dir after h xs)

  changes_ends : (mounts : List Mount) (path : List ℕ) (next : ℕ → Serial → Script) → ((g : ℕ) (p : Serial) (more : Instances) → pk g ≡ true → OneOf more p → (ys : List Answer) → Ends pk (next g p) more ys) → (xs : List Answer) → Ends pk (changes_dir mounts path next) own xs
  changes_ends mounts path next h xs = walked_ends mounts (but_last (components path)) (λ dir k rest. opens_dir (last_of (but_last (components path))) (next dir.group) dir k rest)
      (λ dir k ys. opens_dir_ends pk (last_of (but_last (components path))) (next dir.group) dir (h dir.group) k own none ys) xs

  -- ---- by the words ----

  path_ends : (mounts : List Mount) (free : Option ℕ) (id : CallId) (words : Call) → WalksWords words → NotOpen words → (xs : List Answer) → Ends pk (path_wants mounts free id words) own xs
  path_ends mounts free id (call.Create path sites) w n xs = changes_ends mounts path (λ g p rest. probes p g (last_of (components path)) kind.File sites [] reply.Made rest) (λ g p more e h ys. probes_ends pk p g (last_of (components path)) kind.File sites [] reply.Made more e h ys) xs
  path_ends mounts free id (call.MakeDir path) w n xs = changes_ends mounts path (λ g p rest. probes p g (last_of (components path)) kind.Dir None [] reply.Made rest) (λ g p more e h ys. probes_ends pk p g (last_of (components path)) kind.Dir None [] reply.Made more e h ys) xs
  path_ends mounts free id (call.Unlink path) w n xs = changes_ends mounts path (λ g p rest. finds kind.File p g (last_of (components path)) rest) (λ g p more e h ys. finds_ends pk kind.File p g (last_of (components path)) more e h ys) xs
  path_ends mounts free id (call.RemoveDir path) w n xs = changes_ends mounts path (λ g p rest. finds kind.Dir p g (last_of (components path)) rest) (λ g p more e h ys. finds_ends pk kind.Dir p g (last_of (components path)) more e h ys) xs
  path_ends mounts free id (call.Rename path name) w n xs = changes_ends mounts path (λ g p rest. renames p (last_of (components path)) name rest) (λ g p more e h ys. renames_ends pk p (last_of (components path)) name more h ys) xs
  path_ends mounts free id (call.List path) w n xs = walked_ends mounts (components path) (lists (shown_in mounts) (last_of (components path))) (λ f k ys. lists_ends pk (shown_in mounts) (last_of (components path)) f k own none ys) xs
  path_ends mounts free id (call.Stat path) w n xs = walked_ends mounts (components path) describes (λ f k ys. describes_ends pk f k own none ys) xs
  path_ends mounts free id (call.Mail path bytes) w n xs = walked_ends mounts (components path) _
      (λ dir k ys. opens_dir_ends pk (last_of (components path)) (λ p. probes p dir.group (message_name id) kind.File None bytes (tells_name (message_name id))) dir (λ p more e h zs. probes_ends pk p dir.group (message_name id) kind.File None bytes (tells_name (message_name id)) more e h zs) k own none ys) xs
  path_ends mounts free id (call.Mails path) w n xs = walked_ends mounts (components path) (lists shown_messages (last_of (components path))) (λ f k ys. lists_ends pk shown_messages (last_of (components path)) f k own none ys) xs
  path_ends mounts free id (call.Mend file) w n xs = mend_ends pk file own none xs
  path_ends mounts free id (call.Open path m) w n xs = absurd n
  path_ends mounts free id _ w n xs = absurd w

  named_ends : (mounts : List Mount) (free : Option ℕ) (id : CallId) (words : Call) → WalksWords words → NotOpen words → (xs : List Answer) → Ends pk (named_wants mounts free words (begins.Walks id)) own xs
  named_ends mounts free id words w n xs = over (is_badly_named mounts words)
    where
      over : (x : Bool) → Ends pk (λ ys. cond x (want.Give (reply.No refusal.BadName)) (begun_wants mounts free words (begins.Walks id) ys)) own xs
      over true = give_ends pk (reply.No refusal.BadName) own none xs
      over false = path_ends mounts free id words w n xs

-- ---- what the call has then ----

-- what a call has by its answers
abbrev pub has_by : Script → Instances → List Answer → Instances
has_by k own [] i = own i
has_by k own (a ∷ xs) i = has_by (λ ys. k (a ∷ ys)) (had_after (k []) a own) xs i

-- only requests are answered, and a request is sent where its group is packed
packed_same : (pk : ℕ → Bool) (w : Want) (a : Answer) → Fits (where_packed pk w) a → where_packed pk w ≡ w
packed_same pk w a fit = over w fit
  where
    by_test : (x : Bool) (y : Want) → Fits (cond x y (want.Give (reply.No refusal.NoStorage))) a → cond x y (want.Give (reply.No refusal.NoStorage)) ≡ y
    by_test true y k = refl
    by_test false y k = absurd k

    over : (y : Want) → Fits (where_packed pk y) a → where_packed pk y ≡ y
    over (want.Look f w) k = by_test (pk f.group) (want.Look f w) k
    over (want.Open f m) k = by_test (pk f.group) (want.Open f m) k
    over (want.OpenToMend f) k = by_test (pk f.group) (want.OpenToMend f) k
    over (want.Make g kind sites) k = by_test (pk g) (want.Make g kind sites) k
    over (want.Do i o) k = refl
    over (want.Close i) k = refl
    over (want.Give r) k = refl
    over want.Never k = refl

ends_where : (pk : ℕ → Bool) (k : Script) (own : Instances) (xs : List Answer) → Ends pk k own xs → AllFit (λ ys. where_packed pk (k ys)) xs → GivesNone (where_packed pk (k xs)) (has_by (λ ys. where_packed pk (k ys)) own xs)
ends_where pk k own [] s fit = s
ends_where pk k own (a ∷ xs) s fit = subst (λ (w : Want). GivesNone (where_packed pk (k (a ∷ xs))) (has_by (λ ys. where_packed pk (k (a ∷ ys))) (had_after w a own) xs)) (sym (packed_same pk (k []) a fit.0))
    (ends_where pk (λ ys. k (a ∷ ys)) (had_after (k []) a own) xs (s fit.0) fit.1)

-- a call that walks and is no open has nothing left when it has its reply
pub wants_end : (mounts : List Mount) (pk : ℕ → Bool) (free : Option ℕ) (id : CallId) (words : Call) (own : Instances) → IsNone own → WalksWords words → NotOpen words → (xs : List Answer) → AllFit (wants mounts pk free words (begins.Walks id)) xs →
    GivesNone (wants mounts pk free words (begins.Walks id) xs) (has_by (wants mounts pk free words (begins.Walks id)) own xs)
wants_end mounts pk free id words own none w n xs fit = ends_where pk (named_wants mounts free words (begins.Walks id)) own xs (named_ends pk own none mounts free id words w n xs) fit
