-- The one open instance by which a file is committed, and what its call said.
use Rattle.std.proofs.Common.{ℕ, ◌≡◌, ◌≤◌, Bool, true, false, ◌||◌, cond, List, [], ◌∷◌, length, filter, Option, Some, None, refl, sym, ap, ◌∙◌, arith}
use Rattle.std.specs.List.{find, list_any}
use Rattle.locus_ids.specs.declared.config.Config.{Config}
use Rattle.locus_ids.specs.declared.ids.FileId.{FileId}
use Rattle.locus_ids.specs.declared.ids.EpochId.{EpochId}
use Rattle.locus_ids.specs.declared.ids.CallId.{CallId}
use Rattle.trace_book.specs.Same.{same_call}
use Rattle.commit_graph.specs.Versions.{same_file}
use Rattle.tree_model.specs.Epochs.{is_in}
use Rattle.promises.specs.Past.{Past, CallSoFar, Epoch, Instance, Making, is_writer, site_at}
use Rattle.promises.specs.After.{is_epoch, is_home_of, is_id, with_making, writers_of}
use Rattle.past_laws.proofs.Changing.{filter_same, only_one}
use Rattle.past_laws.proofs.CallsLists.{filter_finds}
use Rattle.audit_past.specs.Writing.{IsSaid, IsWritten, made_by}
use Rattle.past_laws.proofs.Names.{call_turned, epoch_turned, some_same}

-- a site is in one epoch at most
pub home_once : (p : Past) (site : ℕ) → ((e : EpochId) → length (filter (is_epoch e) p.epochs) ≤ 1) → length (filter (is_home_of p site) p.epochs) ≤ 1
home_once p site once = at (site_at p site).epoch
  where
    none : (ts : List Epoch) → length (filter (λ (t : Epoch). is_in None t.id) ts) ≤ 1
    none [] = omega arith
    none (t ∷ ts) = none ts

    at : (o : Option EpochId) → length (filter (λ (t : Epoch). is_in o t.id) p.epochs) ≤ 1
    at None = none p.epochs
    at (Some e) = rw (filter_same (λ (t : Epoch). is_in (Some e) t.id) (is_epoch e) (λ t. epoch_turned e t.id) p.epochs) (once e)

-- the file is committed at the site by this instance alone
pub writers_one : (p : Past) (f : FileId) (site : ℕ) (t : Epoch) (x : Instance) → length (filter (is_home_of p site) p.epochs) ≤ 1 → find (is_home_of p site) p.epochs ≡ Some t → filter (is_writer f site) t.opened ≡ x ∷ [] → writers_of p f site ≡ x ∷ []
writers_one p f site t x few found one = rw (only_one (is_home_of p site) p.epochs t few found, one) refl

-- the first commit of a file tells what that call said
pub making_one : (c : Config) (p : Past) (f : FileId) (site : ℕ) (x : Instance) (k : CallSoFar) → writers_of p f site ≡ x ∷ [] → length (filter (is_id x.grant.call) p.calls) ≤ 1 → find (is_id x.grant.call) p.calls ≡ Some k → with_making c f site p ≡ cond (list_any (λ (m : Making). same_file m.file f) p.files) p.files (made_by c f k ∷ p.files)
making_one c p f site x k one few found = rw (one, filter_same (λ (y : CallSoFar). same_call x.grant.call y.id || false) (is_id x.grant.call) (λ y. or_false (same_call x.grant.call y.id) ∙ call_turned x.grant.call y.id) p.calls, only_one (is_id x.grant.call) p.calls k few found) refl
  where
    or_false : (b : Bool) → (b || false) ≡ b
    or_false true = refl
    or_false false = refl

-- a file that is made stays as it is
pub made_already : (c : Config) (p : Past) (f : FileId) (site : ℕ) → list_any (λ (m : Making). same_file m.file f) p.files ≡ true → with_making c f site p ≡ p.files
made_already c p f site made = rw made refl

-- another is made as the call said
pub making_of_one : (c : Config) (p : Past) (f : FileId) (site : ℕ) (m : Making) → ((id : CallId) → length (filter (is_id id) p.calls) ≤ 1) → ((e : EpochId) → length (filter (is_epoch e) p.epochs) ≤ 1) → IsWritten p f site → IsSaid p c f site m → list_any (λ (x : Making). same_file x.file f) p.files ≡ false → with_making c f site p ≡ m ∷ p.files
making_of_one c p f site m calls epochs w s fresh = making_one c p f site s.writer s.call one (calls s.writer.grant.call) s.called ∙ rw fresh (ap (λ x. x ∷ p.files) (sym s.said))
  where
    same_epoch : w.epoch ≡ s.epoch
    same_epoch = some_same w.epoch s.epoch (sym w.there ∙ s.there)

    same_writer : w.writer ≡ s.writer
    same_writer = some_same w.writer s.writer (sym (filter_finds (is_writer f site) w.epoch.opened w.writer w.alone) ∙ (ap (λ (t : Epoch). find (is_writer f site) t.opened) same_epoch ∙ s.first))

    one : writers_of p f site ≡ s.writer ∷ []
    one = writers_one p f site w.epoch w.writer (home_once p site epochs) w.there w.alone ∙ ap (λ x. x ∷ []) same_writer
