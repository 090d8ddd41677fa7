-- The script of a call that removes a name: what it was answered so far, and what it asked before.
use Rattle.std.proofs.Common.{◌≡◌, ℕ, ◌==◌, Bool, true, false, cond, List, [], ◌∷◌, ◌++◌, Option, Some, None, refl, sym, ◌∙◌, ap, subst, ◌⊎◌, inl, inr}
use Rattle.locus_ids.specs.declared.ids.CallId.{CallId}
use Rattle.locus_ids.specs.declared.config.Config.{Config}
use Rattle.locus_ids.specs.declared.config.Mount.{Mount}
use Rattle.locus_ids.specs.declared.ids.EpochId.{EpochId}
use Rattle.locus_ids.specs.declared.ids.FileId.{FileId}
use Rattle.locus_ids.specs.declared.ids.Kind.{Kind}
use Rattle.locus_ids.specs.declared.ids.Kind.TheVariants as kind
use Rattle.locus_ids.specs.declared.ids.Serial.{Serial}
use Rattle.locus_ids.specs.declared.ids.Stamp.{Stamp}
use Rattle.locus_ids.specs.declared.refusal.Refusal.TheVariants as refusal
use Rattle.trace_book.specs.Names.{but_last, components, last_of}
use Rattle.trace_book.specs.declared.call.Call.{Call}
use Rattle.trace_book.specs.declared.call.Call.TheVariants as call
use Rattle.trace_book.specs.declared.call.OpenMode.TheVariants as how
use Rattle.trace_book.specs.declared.descriptor.Beginning.{Beginning}
use Rattle.trace_book.specs.declared.descriptor.Beginning.TheVariants as begins
use Rattle.trace_book.specs.declared.operation.Op.TheVariants as op
use Rattle.trace_book.specs.declared.operation.Outcome.{Outcome}
use Rattle.trace_book.specs.declared.operation.Outcome.TheVariants as outcome
use Rattle.trace_book.specs.declared.operation.What.TheVariants as what
use Rattle.trace_book.specs.declared.reply.Reply.TheVariants as reply
use Rattle.call_rules.specs.Making.{changes_dir, opens_dir}
use Rattle.call_rules.specs.Removing.{by_kind, empties, finds, opens_target, removes}
use Rattle.call_rules.specs.Scripts.{begun_wants, named_wants, path_wants, where_packed}
use Rattle.call_rules.specs.Walks.{Asks, Fails, Strays, There, Walked, mounted_in, passes, root_of, walk, walked}
use Rattle.call_rules.specs.Words.{is_badly_named}
use Rattle.call_rules.specs.declared.answer.Answer.{Answer}
use Rattle.call_rules.specs.declared.answer.Answer.TheVariants as answer
use Rattle.call_rules.specs.declared.want.Want.{Want}
use Rattle.call_rules.specs.declared.want.Want.TheVariants as want
use Rattle.role_steps.specs.Requests.{opened_serial}
use Rattle.tree_model.specs.Folds.{Trace}
use Rattle.tree_model.specs.declared.accepted.Waiting.{Waiting}
use Rattle.tree_laws.specs.of_lawful_trace.Progress.{is_packed_in}
use Rattle.tree_laws.specs.Calls.{script_as}
use Rattle.tree_laws.proofs.Awaiting.{OpensIt}
use Rattle.tree_laws.proofs.Holding.{Script}
use Rattle.store_laws.proofs.OneTree.RemoveOthers.{NotRemove, close_all_none, give_up_one, give_up_two, others_none, reopens_none, uses_none}

-- ---- before each answer ----

-- so it is of what the script wants before each answer, and of the answer
abbrev pub Along : (Want → Answer → Type 0) → Script → List Answer → Type 0
Along P k [] = Unit {0}
Along P k (a ∷ xs) = P (k []) a × Along P (λ ys. k (a ∷ ys)) xs

pub along_at : (P : Want → Answer → Type 0) (k : Script) (xs : List Answer) (a : Answer) (ys : List Answer) → Along P k (xs ++ a ∷ ys) → P (k xs) a
along_at P k [] a ys h = h.0
along_at P k (x ∷ xs) a ys h = along_at P (λ zs. k (x ∷ zs)) xs a ys h.1

-- of this instance nothing is asked but whether it is empty
abbrev pub IsMild : Serial → Want → Type 0
IsMild t (want.Do j o) = j ≡ t → o ≡ op.Empty
IsMild t _ = Unit {0}

-- a group without packs gives a refusal in place of what is asked
abbrev pub IsOr : Want → Want → Type 0
IsOr w v = (w ≡ v) ⊎ (w ≡ want.Give (reply.No refusal.NoStorage))

-- and what opens it is an open of the file to write, which was answered so
pub record OpensSo (t : Serial) (f : FileId) (ino : ℕ) (w : Want) (a : Answer) : Type 0 where
  pub mild : IsMild t w
  pub opens : OpensIt a t → IsOr w (want.Open f how.Write) × (a ≡ answer.Opened t ino)

pub record DirSo (t : Serial) (f : FileId) (ino : ℕ) (w : Want) (a : Answer) : Type 0 where
  pub opens : OpensIt a t → IsOr w (want.Open f how.Write) × (a ≡ answer.Opened t ino)

-- the serial number of the instance that was opened first of this number
abbrev pub first_opened : ℕ → ℕ → Serial → ℕ → Serial → Option ℕ
first_opened ino dino i found t = elim (dino == ino) [
  | true ↦ Some i.serial
  | false ↦ elim (found == ino) [
    | true ↦ Some t.serial
    | false ↦ None
  ]
]

-- after these answers the call removes the name of this number, from the directory that it opened; then it closes both
pub record Removal (k : Script) (xs : List Answer) (i : Serial) (ino : ℕ) : Type 0 where
  pub target : Serial
  pub found : ℕ
  pub dir : FileId
  pub number : ℕ
  pub on_target : (target ≡ i → ⊥) → Along (OpensSo target (record { group = dir.group; ino = ino }) found) k xs
  pub on_dir : (target ≡ i → ⊥) → Along (DirSo i dir number) k xs
  pub serial_is : opened_serial ino xs ≡ first_opened ino number i found target
  pub closes_dir : (o : Outcome) → k (xs ++ answer.Did o ∷ []) ≡ want.Close i
  pub closes_target : (o : Outcome) (s : Option Stamp) → k (xs ++ answer.Did o ∷ answer.Ended s ∷ []) ≡ want.Close target

-- ---- what isn't so ----

no_do : (w : Want) (i : Serial) (name : List ℕ) (ino : ℕ) → NotRemove w → w ≡ want.Do i (op.Remove name ino) → ⊥
no_do w i name ino none e = subst NotRemove e none

remove_is : (p i : Serial) (n name : List ℕ) (m ino : ℕ) → want.Do p (op.Remove n m) ≡ want.Do i (op.Remove name ino) → (p ≡ i) × (m ≡ ino)
remove_is p i n name m ino e = (cc, cc)

-- ---- the end of the script ----

-- a file is removed
file_so : (p t : Serial) (dir : FileId) (dino ino x : ℕ) (reached component : List ℕ) → Removal (opens_dir reached (λ q rest. finds kind.File q dir.group component rest) dir kind.Dir) (answer.Opened p dino ∷ answer.Did (outcome.Found ino kind.File) ∷ answer.Opened t x ∷ []) p ino
file_so p t dir dino ino x reached component = record {
  target = t;
  found = x;
  dir = dir;
  number = dino;
  on_target = λ ne. (record { mild = tt; opens = λ e. absurd (ne (sym e)) }, (record { mild = λ e. absurd (ne (sym e)); opens = λ e. absurd e }, (record { mild = tt; opens = λ e. (inl refl, refl) }, tt)));
  on_dir = λ ne. (record { opens = λ e. (inl refl, refl) }, (record { opens = λ e. absurd e }, (record { opens = λ e. absurd (ne e) }, tt)));
  serial_is = refl;
  closes_dir = λ o. refl;
  closes_target = λ o s. refl;
}

-- a directory is removed, once it is seen that it is empty
dir_so : (p t : Serial) (dir : FileId) (dino ino x : ℕ) (o : Outcome) (reached component : List ℕ) → Removal (opens_dir reached (λ q rest. finds kind.Dir q dir.group component rest) dir kind.Dir) (answer.Opened p dino ∷ answer.Did (outcome.Found ino kind.Dir) ∷ answer.Opened t x ∷ answer.Did o ∷ []) p ino
dir_so p t dir dino ino x o reached component = record {
  target = t;
  found = x;
  dir = dir;
  number = dino;
  on_target = λ ne. (record { mild = tt; opens = λ e. absurd (ne (sym e)) }, (record { mild = λ e. absurd (ne (sym e)); opens = λ e. absurd e }, (record { mild = tt; opens = λ e. (inl refl, refl) }, (record { mild = λ e. refl; opens = λ e. absurd e }, tt))));
  on_dir = λ ne. (record { opens = λ e. (inl refl, refl) }, (record { opens = λ e. absurd e }, (record { opens = λ e. absurd (ne e) }, (record { opens = λ e. absurd e }, tt))));
  serial_is = refl;
  closes_dir = λ o. refl;
  closes_target = λ o s. refl;
}

moved : (k : Script) (xs : List Answer) (p i : Serial) (m ino : ℕ) → (p ≡ i) × (m ≡ ino) → Removal k xs p m → Removal k xs i ino
moved k xs p i m ino e r = subst (λ (n : ℕ). Removal k xs i n) e.1 (subst (λ (j : Serial). Removal k xs j m) e.0 r)

module _ (dir : FileId) (reached component : List ℕ) (i : Serial) (name : List ℕ) (ino : ℕ) where
  abbrev on : Kind → Script
  on kd = opens_dir reached (λ q rest. finds kd q dir.group component rest) dir kind.Dir

  -- the answers after the target was opened
  file_end : (p t : Serial) (dino m x : ℕ) (n : List ℕ) (xs : List Answer) → removes p t n m xs ≡ want.Do i (op.Remove name ino) → Removal (on kind.File) (answer.Opened p dino ∷ answer.Did (outcome.Found m kind.File) ∷ answer.Opened t x ∷ xs) i ino
  file_end p t dino m x n [] e = moved (on kind.File) _ p i m ino (remove_is p i n name m ino e) (file_so p t dir dino m x reached component)
  file_end p t dino m x n (answer.Did o ∷ rest) e = absurd (no_do _ i name ino (close_all_none (p ∷ t ∷ []) reply.Done rest) e)
  file_end p t dino m x n (answer.Refused why ∷ rest) e = absurd (no_do _ i name ino (give_up_two p t why rest) e)
  file_end p t dino m x n (_ ∷ rest) e = absurd (no_do _ i name ino tt e)

  dir_end : (p t : Serial) (dino m x : ℕ) (n : List ℕ) (o : Outcome) (xs : List Answer) → removes p t n m xs ≡ want.Do i (op.Remove name ino) → Removal (on kind.Dir) (answer.Opened p dino ∷ answer.Did (outcome.Found m kind.Dir) ∷ answer.Opened t x ∷ answer.Did o ∷ xs) i ino
  dir_end p t dino m x n o [] e = moved (on kind.Dir) _ p i m ino (remove_is p i n name m ino e) (dir_so p t dir dino m x o reached component)
  dir_end p t dino m x n o (answer.Did z ∷ rest) e = absurd (no_do _ i name ino (close_all_none (p ∷ t ∷ []) reply.Done rest) e)
  dir_end p t dino m x n o (answer.Refused why ∷ rest) e = absurd (no_do _ i name ino (give_up_two p t why rest) e)
  dir_end p t dino m x n o (_ ∷ rest) e = absurd (no_do _ i name ino tt e)

  empties_end : (p t : Serial) (dino m x : ℕ) (n : List ℕ) (xs : List Answer) → empties kind.Dir p t n m xs ≡ want.Do i (op.Remove name ino) → Removal (on kind.Dir) (answer.Opened p dino ∷ answer.Did (outcome.Found m kind.Dir) ∷ answer.Opened t x ∷ xs) i ino
  empties_end p t dino m x n [] e = absurd (no_do _ i name ino tt e)
  empties_end p t dino m x n (answer.Did o ∷ rest) e = dir_end p t dino m x n o rest e
  empties_end p t dino m x n (answer.Refused why ∷ rest) e = absurd (no_do _ i name ino (give_up_two p t why rest) e)
  empties_end p t dino m x n (_ ∷ rest) e = absurd (no_do _ i name ino tt e)

  file_target : (p : Serial) (dino m : ℕ) (n : List ℕ) (xs : List Answer) → opens_target kind.File p dir.group n m xs ≡ want.Do i (op.Remove name ino) → Removal (on kind.File) (answer.Opened p dino ∷ answer.Did (outcome.Found m kind.File) ∷ xs) i ino
  file_target p dino m n [] e = absurd (no_do _ i name ino tt e)
  file_target p dino m n (answer.Opened t x ∷ rest) e = file_end p t dino m x n rest e
  file_target p dino m n (answer.Refused why ∷ rest) e = absurd (no_do _ i name ino (give_up_one p why rest) e)
  file_target p dino m n (_ ∷ rest) e = absurd (no_do _ i name ino tt e)

  dir_target : (p : Serial) (dino m : ℕ) (n : List ℕ) (xs : List Answer) → opens_target kind.Dir p dir.group n m xs ≡ want.Do i (op.Remove name ino) → Removal (on kind.Dir) (answer.Opened p dino ∷ answer.Did (outcome.Found m kind.Dir) ∷ xs) i ino
  dir_target p dino m n [] e = absurd (no_do _ i name ino tt e)
  dir_target p dino m n (answer.Opened t x ∷ rest) e = empties_end p t dino m x n rest e
  dir_target p dino m n (answer.Refused why ∷ rest) e = absurd (no_do _ i name ino (give_up_one p why rest) e)
  dir_target p dino m n (_ ∷ rest) e = absurd (no_do _ i name ino tt e)

  kind_end : (kd found : Kind) (p : Serial) (dino m : ℕ) (xs : List Answer) → by_kind kd found p dir.group component m xs ≡ want.Do i (op.Remove name ino) → Removal (on kd) (answer.Opened p dino ∷ answer.Did (outcome.Found m found) ∷ xs) i ino
  kind_end kind.File kind.File p dino m xs e = file_target p dino m _ xs e
  kind_end kind.Dir kind.Dir p dino m xs e = dir_target p dino m _ xs e
  kind_end kind.File kind.Dir p dino m xs e = absurd (no_do _ i name ino (give_up_one p _ xs) e)
  kind_end kind.Dir kind.File p dino m xs e = absurd (no_do _ i name ino (give_up_one p _ xs) e)

  finds_end : (kd : Kind) (p : Serial) (dino : ℕ) (xs : List Answer) → finds kd p dir.group component xs ≡ want.Do i (op.Remove name ino) → Removal (on kd) (answer.Opened p dino ∷ xs) i ino
  finds_end kd p dino [] e = absurd (no_do _ i name ino tt e)
  finds_end kd p dino (answer.Did (outcome.Found m found) ∷ rest) e = kind_end kd found p dino m rest e
  finds_end kd p dino (answer.Refused why ∷ rest) e = absurd (no_do _ i name ino (give_up_one p why rest) e)
  finds_end kd p dino (_ ∷ rest) e = absurd (no_do _ i name ino tt e)

  opens_end : (kd at : Kind) (xs : List Answer) → opens_dir reached (λ q rest. finds kd q dir.group component rest) dir at xs ≡ want.Do i (op.Remove name ino) → Removal (opens_dir reached (λ q rest. finds kd q dir.group component rest) dir at) xs i ino
  opens_end kd kind.File xs e = absurd (no_do _ i name ino tt e)
  opens_end kd kind.Dir [] e = absurd (no_do _ i name ino tt e)
  opens_end kd kind.Dir (answer.Opened p dino ∷ rest) e = finds_end kd p dino rest e
  opens_end kd kind.Dir (answer.Refused why ∷ rest) e = absurd (no_do _ i name ino tt e)
  opens_end kd kind.Dir (_ ∷ rest) e = absurd (no_do _ i name ino tt e)

-- ---- the walk before it ----

-- an answer that opens nothing, to what is no operation
removal_after : (k : Script) (a : Answer) (xs : List Answer) (i : Serial) (ino : ℕ) → ((t : Serial) → OpensIt a t → ⊥) → ((t : Serial) → IsMild t (k [])) → (opened_serial ino (a ∷ xs) ≡ opened_serial ino xs) → Removal (λ ys. k (a ∷ ys)) xs i ino → Removal k (a ∷ xs) i ino
removal_after k a xs i ino none mild same r = record {
  target = r.target;
  found = r.found;
  dir = r.dir;
  number = r.number;
  on_target = λ ne. (record { mild = mild r.target; opens = λ e. absurd (none r.target e) }, r.on_target ne);
  on_dir = λ ne. (record { opens = λ e. absurd (none i e) }, r.on_dir ne);
  serial_is = same ∙ r.serial_is;
  closes_dir = r.closes_dir;
  closes_target = r.closes_target;
}

-- of a script that is the same
pub along_same : (P : Want → Answer → Type 0) (k l : Script) → ((ys : List Answer) → k ys ≡ l ys) → (xs : List Answer) → Along P k xs → Along P l xs
along_same P k l same [] h = tt
along_same P k l same (a ∷ xs) h = (subst (λ (w : Want). P w a) (same []) h.0, along_same P (λ ys. k (a ∷ ys)) (λ ys. l (a ∷ ys)) (λ ys. same (a ∷ ys)) xs h.1)

-- a script that is the same
pub removal_same : (k l : Script) → ((ys : List Answer) → k ys ≡ l ys) → (xs : List Answer) (i : Serial) (ino : ℕ) → Removal k xs i ino → Removal l xs i ino
removal_same k l same xs i ino r = record {
  target = r.target;
  found = r.found;
  dir = r.dir;
  number = r.number;
  on_target = λ ne. along_same (OpensSo r.target (record { group = r.dir.group; ino = ino }) r.found) k l same xs (r.on_target ne);
  on_dir = λ ne. along_same (DirSo i r.dir r.number) k l same xs (r.on_dir ne);
  serial_is = r.serial_is;
  closes_dir = λ o. sym (same (xs ++ answer.Did o ∷ [])) ∙ r.closes_dir o;
  closes_target = λ o s. sym (same (xs ++ answer.Did o ∷ answer.Ended s ∷ [])) ∙ r.closes_target o s;
}

abbrev pub goes : (FileId → Kind → Script) → Walked → Want
goes after (Asks dir c) = want.Look dir (what.Name c)
goes after (Fails why) = want.Give (reply.No why)
goes after (There at kd rest) = after at kd rest
goes after Strays = want.Never

pub goes_walked : (mounts : List Mount) (path : List (List ℕ)) (after : FileId → Kind → Script) (xs : List Answer) → goes after (walk mounts path [] (root_of 0) kind.Dir xs) ≡ walked mounts path xs after
goes_walked mounts path after xs = over (walk mounts path [] (root_of 0) kind.Dir xs) refl
  where
    over : (w : Walked) → walk mounts path [] (root_of 0) kind.Dir xs ≡ w → goes after (walk mounts path [] (root_of 0) kind.Dir xs) ≡ walked mounts path xs after
    over (Asks dir c) e = rw e refl
    over (Fails why) e = rw e refl
    over (There at kd rest) e = rw e refl
    over Strays e = rw e refl

walk_removal : (mounts : List Mount) (after : FileId → Kind → Script) (i : Serial) (name : List ℕ) (ino : ℕ) → ((f : FileId) (kd : Kind) (ys : List Answer) → after f kd ys ≡ want.Do i (op.Remove name ino) → Removal (after f kd) ys i ino) →
    (cs : List (List ℕ)) (reached : List ℕ) (at : FileId) (kd : Kind) (xs : List Answer) → goes after (walk mounts cs reached at kd xs) ≡ want.Do i (op.Remove name ino) → Removal (λ ys. goes after (walk mounts cs reached at kd ys)) xs i ino
walk_removal mounts after i name ino each [] reached at kd xs e = each at kd xs e
walk_removal mounts after i name ino each (c ∷ cs) reached at kind.File xs e = absurd (no_do _ i name ino tt e)
walk_removal mounts after i name ino each (c ∷ cs) reached at kind.Dir xs e = over (λ f kd ys q. walk_removal mounts after i name ino each cs c f kd ys q) (mounted_in mounts at c) xs e
  where
    over : ((f : FileId) (kd : Kind) (ys : List Answer) → goes after (walk mounts cs c f kd ys) ≡ want.Do i (op.Remove name ino) → Removal (λ zs. goes after (walk mounts cs c f kd zs)) ys i ino) →
        (m : Option ℕ) (ys : List Answer) → goes after (passes (walk mounts cs c) at c m ys) ≡ want.Do i (op.Remove name ino) → Removal (λ zs. goes after (passes (walk mounts cs c) at c m zs)) ys i ino
    over later (Some group) ys q = later (root_of group) kind.Dir ys q
    over later None [] q = absurd (no_do _ i name ino tt q)
    over later None (answer.Entered m kd ∷ rest) q = removal_after _ (answer.Entered m kd) rest i ino (λ t o. o) (λ t. tt) refl (later (record { group = at.group; ino = m }) kd rest q)
    over later None (answer.Refused why ∷ rest) q = absurd (no_do _ i name ino tt q)
    over later None (_ ∷ rest) q = absurd (no_do _ i name ino tt q)

changes_removal : (mounts : List Mount) (path : List ℕ) (kd : Kind) (i : Serial) (name : List ℕ) (ino : ℕ) (xs : List Answer) → changes_dir mounts path (λ group p rest. finds kd p group (last_of (components path)) rest) xs ≡ want.Do i (op.Remove name ino) →
    Removal (changes_dir mounts path (λ group p rest. finds kd p group (last_of (components path)) rest)) xs i ino
changes_removal mounts path kd i name ino xs e = removal_same (λ ys. goes after (walk mounts (but_last (components path)) [] (root_of 0) kind.Dir ys)) (changes_dir mounts path (λ group p rest. finds kd p group (last_of (components path)) rest)) (goes_walked mounts (but_last (components path)) after) xs i ino
    (walk_removal mounts after i name ino (λ f at ys q. opens_end f (last_of (but_last (components path))) (last_of (components path)) i name ino kd at ys q) (but_last (components path)) [] (root_of 0) kind.Dir xs (goes_walked mounts (but_last (components path)) after xs ∙ e))
  where
    after : FileId → Kind → Script
    after dir at rest = opens_dir (last_of (but_last (components path))) (λ p ys. finds kd p dir.group (last_of (components path)) ys) dir at rest

-- ---- the whole script ----

path_removal : (mounts : List Mount) (free : Option ℕ) (id : CallId) (words : Call) (i : Serial) (name : List ℕ) (ino : ℕ) (xs : List Answer) → path_wants mounts free id words xs ≡ want.Do i (op.Remove name ino) → Removal (path_wants mounts free id words) xs i ino
path_removal mounts free id (call.Unlink path) i name ino xs e = changes_removal mounts path kind.File i name ino xs e
path_removal mounts free id (call.RemoveDir path) i name ino xs e = changes_removal mounts path kind.Dir i name ino xs e
path_removal mounts free id words i name ino xs e = absurd (no_do _ i name ino (others_none mounts free id words (λ r. r) xs) e)

begun_removal : (mounts : List Mount) (free : Option ℕ) (words : Call) (b : Beginning) (i : Serial) (name : List ℕ) (ino : ℕ) (xs : List Answer) → begun_wants mounts free words b xs ≡ want.Do i (op.Remove name ino) → Removal (begun_wants mounts free words b) xs i ino
begun_removal mounts free words (begins.Denied why) i name ino xs e = absurd (no_do _ i name ino tt e)
begun_removal mounts free words (begins.Uses epoch inst) i name ino xs e = absurd (no_do _ i name ino (uses_none words inst xs) e)
begun_removal mounts free words (begins.Walks id) i name ino xs e = path_removal mounts free id words i name ino xs e
begun_removal mounts free words (begins.Reopens kept last) i name ino xs e = absurd (no_do _ i name ino (reopens_none words kept last xs) e)
begun_removal mounts free words begins.Frees i name ino xs e = absurd (no_do _ i name ino tt e)

-- by whether groups have packs
pub packed_is : (p : ℕ → Bool) (w : Want) → IsOr (where_packed p w) w
packed_is p w = over w
  where
    by_test : (b : Bool) (y : Want) → IsOr (cond b y (want.Give (reply.No refusal.NoStorage))) y
    by_test true y = inl refl
    by_test false y = inr refl

    over : (y : Want) → IsOr (where_packed p y) y
    over (want.Look f x) = by_test (p f.group) (want.Look f x)
    over (want.Open f m) = by_test (p f.group) (want.Open f m)
    over (want.OpenToMend f) = by_test (p f.group) (want.OpenToMend f)
    over (want.Make g kd sites) = by_test (p g) (want.Make g kd sites)
    over (want.Do j o) = inl refl
    over (want.Close j) = inl refl
    over (want.Give r) = inl refl
    over want.Never = inl refl

pub or_more : (p : ℕ → Bool) (w v : Want) → IsOr w v → IsOr (where_packed p w) v
or_more p w v (inl e) = over (packed_is p w)
  where
    over : IsOr (where_packed p w) w → IsOr (where_packed p w) v
    over (inl q) = inl (q ∙ e)
    over (inr q) = inr q
or_more p w v (inr e) = inr (ap (where_packed p) e)

mild_packed : (p : ℕ → Bool) (t : Serial) (w : Want) → IsMild t w → IsMild t (where_packed p w)
mild_packed p t w h = over (packed_is p w)
  where
    over : IsOr (where_packed p w) w → IsMild t (where_packed p w)
    over (inl q) = subst (IsMild t) (sym q) h
    over (inr q) = subst (IsMild t) (sym q) tt

pub along_more : (P : Want → Answer → Type 0) (g : Want → Want) → ((w : Want) (a : Answer) → P w a → P (g w) a) → (k : Script) (xs : List Answer) → Along P k xs → Along P (λ ys. g (k ys)) xs
along_more P g each k [] h = tt
along_more P g each k (a ∷ xs) h = (each (k []) a h.0, along_more P g each (λ ys. k (a ∷ ys)) xs h.1)

removal_packed : (p : ℕ → Bool) (k : Script) (xs : List Answer) (i : Serial) (ino : ℕ) → Removal k xs i ino → Removal (λ ys. where_packed p (k ys)) xs i ino
removal_packed p k xs i ino r = record {
  target = r.target;
  found = r.found;
  dir = r.dir;
  number = r.number;
  on_target = λ ne. along_more (OpensSo r.target (record { group = r.dir.group; ino = ino }) r.found) (where_packed p) (λ w a z. record { mild = mild_packed p r.target w z.mild; opens = λ o. (or_more p w _ (z.opens o).0, (z.opens o).1) }) k xs (r.on_target ne);
  on_dir = λ ne. along_more (DirSo i r.dir r.number) (where_packed p) (λ w a z. record { opens = λ o. (or_more p w _ (z.opens o).0, (z.opens o).1) }) k xs (r.on_dir ne);
  serial_is = r.serial_is;
  closes_dir = λ o. ap (where_packed p) (r.closes_dir o);
  closes_target = λ o s. ap (where_packed p) (r.closes_target o s);
}

remove_unpacked : (p : ℕ → Bool) (w : Want) (i : Serial) (name : List ℕ) (ino : ℕ) → where_packed p w ≡ want.Do i (op.Remove name ino) → w ≡ want.Do i (op.Remove name ino)
remove_unpacked p w i name ino e = over (packed_is p w)
  where
    over : IsOr (where_packed p w) w → w ≡ want.Do i (op.Remove name ino)
    over (inl q) = sym q ∙ e
    over (inr q) = absurd (no_do _ i name ino tt (sym q ∙ e))

named_removal : (mounts : List Mount) (free : Option ℕ) (words : Call) (b : Beginning) (i : Serial) (name : List ℕ) (ino : ℕ) (xs : List Answer) → named_wants mounts free words b xs ≡ want.Do i (op.Remove name ino) → Removal (named_wants mounts free words b) xs i ino
named_removal mounts free words b i name ino xs e = over (is_badly_named mounts words) e
  where
    over : (x : Bool) → cond x (want.Give (reply.No refusal.BadName)) (begun_wants mounts free words b xs) ≡ want.Do i (op.Remove name ino) → Removal (λ ys. cond x (want.Give (reply.No refusal.BadName)) (begun_wants mounts free words b ys)) xs i ino
    over true q = absurd (no_do _ i name ino tt q)
    over false q = begun_removal mounts free words b i name ino xs q

-- what a call has been answered that removes a name
pub script_removal : (c : Config) (before : Trace) (w : Waiting) (o : Option Beginning) (i : Serial) (name : List ℕ) (ino : ℕ) (xs : List Answer) → script_as c before (Some w) o None xs ≡ want.Do i (op.Remove name ino) → Removal (script_as c before (Some w) o None) xs i ino
script_removal c before w None i name ino xs e = absurd (no_do _ i name ino tt e)
script_removal c before w (Some b) i name ino xs e = removal_packed (is_packed_in c before w.epoch) (named_wants c.mounts None w.words b) xs i ino (named_removal c.mounts None w.words b i name ino xs (remove_unpacked (is_packed_in c before w.epoch) (named_wants c.mounts None w.words b xs) i name ino e))

-- a call on a descriptor removes nothing
pub uses_remove_none : (c : Config) (before : Trace) (w : Waiting) (e : EpochId) (j i : Serial) (name : List ℕ) (ino : ℕ) (xs : List Answer) → script_as c before (Some w) (Some (begins.Uses e j)) None xs ≡ want.Do i (op.Remove name ino) → ⊥
uses_remove_none c before w e j i name ino xs q = over (is_badly_named c.mounts w.words) (remove_unpacked (is_packed_in c before w.epoch) (named_wants c.mounts None w.words (begins.Uses e j) xs) i name ino q)
  where
    over : (x : Bool) → cond x (want.Give (reply.No refusal.BadName)) (begun_wants c.mounts None w.words (begins.Uses e j) xs) ≡ want.Do i (op.Remove name ino) → ⊥
    over true r = no_do _ i name ino tt r
    over false r = no_do _ i name ino (uses_none w.words j xs) r
