-- How scripts end: when a call has its reply, whatever it opened for itself is closed.
use Rattle.std.proofs.Common.{◌≡◌, ℕ, Bool, true, false, not, cond, ◌&&◌, ◌||◌, List, [], ◌∷◌, Option, refl, sym, ◌∙◌, subst, ◌⊎◌, inl, inr}
use Rattle.role_steps.proofs.of_plain_facts.Tests.{true_false}
use Rattle.locus_ids.specs.declared.ids.FileId.{FileId}
use Rattle.locus_ids.specs.declared.ids.Kind.{Kind}
use Rattle.locus_ids.specs.declared.ids.Kind.TheVariants as kind
use Rattle.locus_ids.specs.declared.ids.Serial.{Serial}
use Rattle.locus_ids.specs.declared.ids.Stamp.{Stamp}
use Rattle.locus_ids.specs.declared.refusal.Refusal.{Refusal}
use Rattle.locus_ids.specs.declared.refusal.Refusal.TheVariants as refusal
use Rattle.locus_ids.specs.declared.sites.Sites.{Sites}
use Rattle.trace_book.specs.Same.{same_serial}
use Rattle.trace_book.specs.declared.call.OpenMode.TheVariants as how
use Rattle.trace_book.specs.declared.operation.Outcome.TheVariants as outcome
use Rattle.trace_book.specs.declared.operation.What.TheVariants as what
use Rattle.trace_book.specs.declared.reply.Reply.{Reply}
use Rattle.trace_book.specs.declared.reply.Reply.TheVariants as reply
use Rattle.call_rules.specs.declared.answer.Answer.{Answer}
use Rattle.call_rules.specs.declared.answer.Answer.TheVariants as answer
use Rattle.call_rules.specs.declared.want.Want.{Want}
use Rattle.call_rules.specs.declared.want.Want.TheVariants as want
use Rattle.call_rules.specs.Closing.{Unchanged, closes, gives, give_up, close_all}
use Rattle.call_rules.specs.Making.{after_insert, after_make, fills, after_probe, probes, opens_dir}
use Rattle.call_rules.specs.Mending.{after_mend, brings, mend_wants}
use Rattle.call_rules.specs.Naming.{renames}
use Rattle.call_rules.specs.Opening.{close_wants, lists, describes, Shows}
use Rattle.call_rules.specs.Removing.{removes, empties, opens_target, by_kind, finds}
use Rattle.call_rules.specs.Scripts.{where_packed}
use Rattle.locus_ids.specs.declared.config.Mount.{Mount}
use Rattle.trace_book.specs.Names.{plain_name}
use Rattle.tree_laws.specs.Holding.{Instances, had_after}
use Rattle.tree_laws.proofs.Names.{same_serial_eq, same_serial_own}
use Rattle.store_laws.proofs.ScriptFitting.{Fits, Script}

-- the call has none
abbrev pub IsNone : Instances → Type 0
IsNone own = (i : Serial) → own i ≡ true → ⊥

-- where this is a reply, the call has none
abbrev pub GivesNone : Want → Instances → Type 0
GivesNone (want.Give r) own = IsNone own
GivesNone _ own = Unit {0}

-- after answers that fit, the script gives its reply only once nothing is left of what it opened
abbrev pub Ends : (ℕ → Bool) → Script → Instances → List Answer → Type 0
Ends pk k own [] = GivesNone (where_packed pk (k [])) own
Ends pk k own (a ∷ xs) = Fits (where_packed pk (k [])) a → Ends pk (λ ys. k (a ∷ ys)) (had_after (k []) a own) xs

-- ---- one, and two ----

abbrev pub OneOf : Instances → Serial → Type 0
OneOf own p = (i : Serial) → own i ≡ true → p ≡ i

abbrev TwoOf : Instances → Serial → Serial → Type 0
TwoOf own p t = (i : Serial) → own i ≡ true → (p ≡ i) ⊎ (t ≡ i)

-- without one of them
abbrev Without : Serial → Instances → Instances
Without p own i = not (same_serial p i) && own i

parts : (a b : Bool) → (not a && b) ≡ true → (a ≡ false) × (b ≡ true)
parts true b e = absurd (true_false (sym e))
parts false b e = (refl, e)

apart : (p i : Serial) → same_serial p i ≡ false → p ≡ i → ⊥
apart p i e is = true_false (sym (subst (λ (j : Serial). same_serial p j ≡ true) is (same_serial_own p)) ∙ e)

closed_one : (own : Instances) (p : Serial) → OneOf own p → IsNone (Without p own)
closed_one own p h i e = (let k : (same_serial p i ≡ false) × (own i ≡ true) = parts (same_serial p i) (own i) e in apart p i k.0 (h i k.1))

closed_two : (own : Instances) (p t : Serial) → TwoOf own p t → OneOf (Without p own) t
closed_two own p t h i e = over (parts (same_serial p i) (own i) e) (λ o. h i o)
  where
    over : (same_serial p i ≡ false) × (own i ≡ true) → (own i ≡ true → (p ≡ i) ⊎ (t ≡ i)) → t ≡ i
    over k later = at (later k.1)
      where
        at : (p ≡ i) ⊎ (t ≡ i) → t ≡ i
        at (inl is) = absurd (apart p i k.0 is)
        at (inr is) = is

two_turned : (own : Instances) (p t : Serial) → TwoOf own p t → TwoOf own t p
two_turned own p t h i e = swap (h i e)
  where
    swap : (p ≡ i) ⊎ (t ≡ i) → (t ≡ i) ⊎ (p ≡ i)
    swap (inl is) = inr is
    swap (inr is) = inl is

closed_other : (own : Instances) (p t : Serial) → TwoOf own p t → OneOf (Without t own) p
closed_other own p t h = closed_two own t p (two_turned own p t h)

opened_one : (own : Instances) (p : Serial) → IsNone own → OneOf (λ i. same_serial p i || own i) p
opened_one own p h i e = over (same_serial p i) refl e
  where
    over : (b : Bool) → same_serial p i ≡ b → (b || own i) ≡ true → p ≡ i
    over true k o = same_serial_eq p i k
    over false k o = absurd (h i o)

opened_two : (own : Instances) (p t : Serial) → OneOf own p → TwoOf (λ i. same_serial t i || own i) p t
opened_two own p t h i e = over (same_serial t i) refl e
  where
    over : (b : Bool) → same_serial t i ≡ b → (b || own i) ≡ true → (p ≡ i) ⊎ (t ≡ i)
    over true k o = inr (same_serial_eq t i k)
    over false k o = inl (h i o)

-- ---- groups that are packed ----

packed_from : (b : Bool) (w : Want) (a : Answer) → Fits (cond b w (want.Give (reply.No refusal.NoStorage))) a → b ≡ true
packed_from true w a f = refl
packed_from false w a f = absurd f

packed_gives : (b : Bool) (w : Want) (own : Instances) → GivesNone w own → b ≡ true → GivesNone (cond b w (want.Give (reply.No refusal.NoStorage))) own
packed_gives true w own h e = h
packed_gives false w own h e = absurd (true_false (sym e))

pub none_gives : (b : Bool) (w : Want) (own : Instances) → GivesNone w own → IsNone own → GivesNone (cond b w (want.Give (reply.No refusal.NoStorage))) own
none_gives true w own h none = h
none_gives false w own h none = none

pub unfit : (b : Bool) (w : Want) (a : Answer) → (Fits w a → ⊥) → Fits (cond b w (want.Give (reply.No refusal.NoStorage))) a → ⊥
unfit true w a h f = h f
unfit false w a h f = f

module _ (pk : ℕ → Bool) where
  -- ---- how a call ends ----

  pub give_ends : (r : Reply) (own : Instances) → IsNone own → (xs : List Answer) → Ends pk (λ ys. want.Give r) own xs
  give_ends r own h [] = h
  give_ends r own h (a ∷ xs) = λ fit. absurd fit

  gives_ends : (r : Reply) (own : Instances) → IsNone own → (xs : List Answer) → Ends pk (gives r) own xs
  gives_ends r own h [] = h
  gives_ends r own h (a ∷ xs) = λ fit. absurd fit

  closes_ends : (i : Serial) (next : Script) (own : Instances) → ((ys : List Answer) → Ends pk next (Without i own) ys) → (xs : List Answer) → Ends pk (closes i next) own xs
  closes_ends i next own h [] = tt
  closes_ends i next own h (answer.Ended stamp ∷ rest) = λ fit. h rest
  closes_ends i next own h (answer.Refused why ∷ rest) = λ fit. h rest
  closes_ends i next own h (a ∷ rest) = λ fit. absurd fit

  give_up_one : (p : Serial) (why : Refusal) (own : Instances) → OneOf own p → (xs : List Answer) → Ends pk (give_up (Unchanged p ∷ []) why) own xs
  give_up_one p why own h xs = closes_ends p (give_up [] why) own (λ ys. gives_ends (reply.No why) (Without p own) (closed_one own p h) ys) xs

  give_up_two : (p t : Serial) (why : Refusal) (own : Instances) → TwoOf own p t → (xs : List Answer) → Ends pk (give_up (Unchanged p ∷ Unchanged t ∷ []) why) own xs
  give_up_two p t why own h xs = closes_ends p (give_up (Unchanged t ∷ []) why) own (λ ys. give_up_one t why (Without p own) (closed_two own p t h) ys) xs

  close_one : (p : Serial) (r : Reply) (own : Instances) → OneOf own p → (xs : List Answer) → Ends pk (close_all (p ∷ []) r) own xs
  close_one p r own h [] = tt
  close_one p r own h (answer.Ended stamp ∷ xs) = λ fit. gives_ends r (Without p own) (closed_one own p h) xs
  close_one p r own h (answer.Refused why ∷ xs) = λ fit. gives_ends (reply.No why) (Without p own) (closed_one own p h) xs
  close_one p r own h (a ∷ xs) = λ fit. absurd fit

  close_two : (p t : Serial) (r : Reply) (own : Instances) → TwoOf own p t → (xs : List Answer) → Ends pk (close_all (p ∷ t ∷ []) r) own xs
  close_two p t r own h [] = tt
  close_two p t r own h (answer.Ended stamp ∷ xs) = λ fit. close_one t r (Without p own) (closed_two own p t h) xs
  close_two p t r own h (answer.Refused why ∷ xs) = λ fit. closes_ends t (gives (reply.No why)) (Without p own) (λ ys. gives_ends (reply.No why) (Without t (Without p own)) (closed_one (Without p own) t (closed_two own p t h)) ys) xs
  close_two p t r own h (a ∷ xs) = λ fit. absurd fit

  -- ---- create and mkdir ----

  after_insert_ends : (p : Serial) (name : List ℕ) (k : Kind) (ino : ℕ) (told : Reply) (own : Instances) → OneOf own p → (xs : List Answer) → Ends pk (after_insert p name k ino told) own xs
  after_insert_ends p name k ino told own h [] = tt
  after_insert_ends p name k ino told own h (answer.Did o ∷ xs) = λ fit. close_one p told own h xs
  after_insert_ends p name k ino told own h (answer.Refused why ∷ xs) = λ fit. give_up_one p why own h xs
  after_insert_ends p name k ino told own h (a ∷ xs) = λ fit. absurd fit

  after_make_ends : (p : Serial) (name : List ℕ) (k : Kind) (made : Serial) (ino : ℕ) (told : Reply) (own : Instances) → TwoOf own p made → (xs : List Answer) → Ends pk (after_make p name k made ino told) own xs
  after_make_ends p name k made ino told own h [] = tt
  after_make_ends p name k made ino told own h (answer.Ended stamp ∷ xs) = λ fit. after_insert_ends p name k ino told (Without made own) (closed_other own p made h) xs
  after_make_ends p name k made ino told own h (answer.Refused why ∷ xs) = λ fit. give_up_one p why (Without made own) (closed_other own p made h) xs
  after_make_ends p name k made ino told own h (a ∷ xs) = λ fit. absurd fit

  fills_ends : (p : Serial) (name : List ℕ) (k : Kind) (bytes : List ℕ) (made : Serial) (ino : ℕ) (told : Reply) (own : Instances) → TwoOf own p made → (xs : List Answer) → Ends pk (fills p name k bytes made ino told) own xs
  fills_ends p name k [] made ino told own h xs = after_make_ends p name k made ino told own h xs
  fills_ends p name k (b ∷ bs) made ino told own h [] = tt
  fills_ends p name k (b ∷ bs) made ino told own h (answer.Did o ∷ xs) = λ fit. after_make_ends p name k made ino told own h xs
  fills_ends p name k (b ∷ bs) made ino told own h (answer.Refused why ∷ xs) = λ fit. give_up_two made p why own (two_turned own p made h) xs
  fills_ends p name k (b ∷ bs) made ino told own h (a ∷ xs) = λ fit. absurd fit

  after_probe_ends : (p : Serial) (group : ℕ) (name : List ℕ) (k : Kind) (sites : Option Sites) (bytes : List ℕ) (tells : ℕ → Reply) (own : Instances) → pk group ≡ true → OneOf own p → (xs : List Answer) → Ends pk (after_probe p group name k sites bytes tells) own xs
  after_probe_ends p group name k sites bytes tells own e h [] = packed_gives (pk group) (want.Make group k sites) own tt e
  after_probe_ends p group name k sites bytes tells own e h (answer.Opened made ino ∷ xs) = λ fit. fills_ends p name k bytes made ino (tells ino) (λ i. same_serial made i || own i) (opened_two own p made h) xs
  after_probe_ends p group name k sites bytes tells own e h (answer.Refused why ∷ xs) = λ fit. give_up_one p why own h xs
  after_probe_ends p group name k sites bytes tells own e h (a ∷ xs) = λ fit. absurd (unfit (pk group) (want.Make group k sites) a (λ f. f) fit)

  pub probes_ends : (p : Serial) (group : ℕ) (name : List ℕ) (k : Kind) (sites : Option Sites) (bytes : List ℕ) (tells : ℕ → Reply) (own : Instances) → pk group ≡ true → OneOf own p → (xs : List Answer) → Ends pk (probes p group name k sites bytes tells) own xs
  probes_ends p group name k sites bytes tells own e h [] = tt
  probes_ends p group name k sites bytes tells own e h (answer.Did o ∷ xs) = λ fit. after_probe_ends p group name k sites bytes tells own e h xs
  probes_ends p group name k sites bytes tells own e h (answer.Refused why ∷ xs) = λ fit. give_up_one p why own h xs
  probes_ends p group name k sites bytes tells own e h (a ∷ xs) = λ fit. absurd fit

  pub opens_dir_ends : (reached : List ℕ) (next : Serial → Script) (dir : FileId) → ((p : Serial) (own : Instances) → pk dir.group ≡ true → OneOf own p → (ys : List Answer) → Ends pk (next p) own ys) → (k : Kind) (own : Instances) → IsNone own → (xs : List Answer) → Ends pk (opens_dir reached next dir k) own xs
  opens_dir_ends reached next dir h kind.File own none xs = give_ends (reply.No (refusal.NotDir reached)) own none xs
  opens_dir_ends reached next dir h kind.Dir own none [] = none_gives (pk dir.group) (want.Open dir how.Write) own tt none
  opens_dir_ends reached next dir h kind.Dir own none (answer.Opened p ino ∷ xs) = λ fit. h p (λ i. same_serial p i || own i) (packed_from (pk dir.group) (want.Open dir how.Write) (answer.Opened p ino) fit) (opened_one own p none) xs
  opens_dir_ends reached next dir h kind.Dir own none (answer.Refused why ∷ xs) = λ fit. give_ends (reply.No why) own none xs
  opens_dir_ends reached next dir h kind.Dir own none (a ∷ xs) = λ fit. absurd (unfit (pk dir.group) (want.Open dir how.Write) a (λ f. f) fit)

  -- ---- unlink, rmdir and rename ----

  removes_ends : (p t : Serial) (name : List ℕ) (ino : ℕ) (own : Instances) → TwoOf own p t → (xs : List Answer) → Ends pk (removes p t name ino) own xs
  removes_ends p t name ino own h [] = tt
  removes_ends p t name ino own h (answer.Did o ∷ xs) = λ fit. close_two p t reply.Done own h xs
  removes_ends p t name ino own h (answer.Refused why ∷ xs) = λ fit. give_up_two p t why own h xs
  removes_ends p t name ino own h (a ∷ xs) = λ fit. absurd fit

  empties_ends : (k : Kind) (p t : Serial) (name : List ℕ) (ino : ℕ) (own : Instances) → TwoOf own p t → (xs : List Answer) → Ends pk (empties k p t name ino) own xs
  empties_ends kind.File p t name ino own h xs = removes_ends p t name ino own h xs
  empties_ends kind.Dir p t name ino own h [] = tt
  empties_ends kind.Dir p t name ino own h (answer.Did o ∷ xs) = λ fit. removes_ends p t name ino own h xs
  empties_ends kind.Dir p t name ino own h (answer.Refused why ∷ xs) = λ fit. give_up_two p t why own h xs
  empties_ends kind.Dir p t name ino own h (a ∷ xs) = λ fit. absurd fit

  target_ends : (k : Kind) (p : Serial) (group : ℕ) (name : List ℕ) (ino : ℕ) (own : Instances) → pk group ≡ true → OneOf own p → (xs : List Answer) → Ends pk (opens_target k p group name ino) own xs
  target_ends k p group name ino own e h [] = packed_gives (pk group) (want.Open (record { group = group; ino = ino }) how.Write) own tt e
  target_ends k p group name ino own e h (answer.Opened t found ∷ xs) = λ fit. empties_ends k p t name ino (λ i. same_serial t i || own i) (opened_two own p t h) xs
  target_ends k p group name ino own e h (answer.Refused why ∷ xs) = λ fit. give_up_one p why own h xs
  target_ends k p group name ino own e h (a ∷ xs) = λ fit. absurd (unfit (pk group) (want.Open (record { group = group; ino = ino }) how.Write) a (λ f. f) fit)

  by_kind_ends : (k found : Kind) (p : Serial) (group : ℕ) (component : List ℕ) (ino : ℕ) (own : Instances) → pk group ≡ true → OneOf own p → (xs : List Answer) → Ends pk (by_kind k found p group component ino) own xs
  by_kind_ends kind.File kind.File p group component ino own e h xs = target_ends kind.File p group (plain_name component) ino own e h xs
  by_kind_ends kind.Dir kind.Dir p group component ino own e h xs = target_ends kind.Dir p group (plain_name component) ino own e h xs
  by_kind_ends kind.File kind.Dir p group component ino own e h xs = give_up_one p _ own h xs
  by_kind_ends kind.Dir kind.File p group component ino own e h xs = give_up_one p _ own h xs

  pub finds_ends : (k : Kind) (p : Serial) (group : ℕ) (component : List ℕ) (own : Instances) → pk group ≡ true → OneOf own p → (xs : List Answer) → Ends pk (finds k p group component) own xs
  finds_ends k p group component own e h [] = tt
  finds_ends k p group component own e h (answer.Did (outcome.Found ino found) ∷ xs) = λ fit. by_kind_ends k found p group component ino own e h xs
  finds_ends k p group component own e h (answer.Refused why ∷ xs) = λ fit. give_up_one p why own h xs
  finds_ends k p group component own e h (a ∷ xs) = λ fit. absurd fit

  pub renames_ends : (p : Serial) (component name : List ℕ) (own : Instances) → OneOf own p → (xs : List Answer) → Ends pk (renames p component name) own xs
  renames_ends p component name own h [] = tt
  renames_ends p component name own h (answer.Did o ∷ xs) = λ fit. close_one p reply.Done own h xs
  renames_ends p component name own h (answer.Refused why ∷ xs) = λ fit. give_up_one p why own h xs
  renames_ends p component name own h (a ∷ xs) = λ fit. absurd fit

  -- ---- mend ----

  close_ends : (p : Serial) (own : Instances) → OneOf own p → (xs : List Answer) → Ends pk (close_wants p) own xs
  close_ends p own h [] = tt
  close_ends p own h (answer.Ended stamp ∷ []) = λ fit. closed_one own p h
  close_ends p own h (answer.Ended stamp ∷ (a ∷ xs)) = λ fit more. absurd more
  close_ends p own h (answer.Refused why ∷ []) = λ fit. closed_one own p h
  close_ends p own h (answer.Refused why ∷ (a ∷ xs)) = λ fit more. absurd more
  close_ends p own h (a ∷ xs) = λ fit. absurd fit

  after_mend_ends : (p : Serial) (own : Instances) → OneOf own p → (xs : List Answer) → Ends pk (after_mend p) own xs
  after_mend_ends p own h [] = tt
  after_mend_ends p own h (answer.Did o ∷ xs) = λ fit. close_ends p own h xs
  after_mend_ends p own h (answer.Refused why ∷ xs) = λ fit. give_up_one p why own h xs
  after_mend_ends p own h (a ∷ xs) = λ fit. absurd fit

  brings_ends : (p : Serial) (f : FileId) (stamps : List Stamp) (own : Instances) → pk f.group ≡ true → OneOf own p → (xs : List Answer) → Ends pk (brings p f stamps) own xs
  brings_ends p f [] own e h xs = after_mend_ends p own h xs
  brings_ends p f (s ∷ ss) own e h [] = packed_gives (pk f.group) (want.Look f (what.Whole s)) own tt e
  brings_ends p f (s ∷ ss) own e h (answer.Brought ∷ xs) = λ fit. brings_ends p f ss own e h xs
  brings_ends p f (s ∷ ss) own e h (answer.Refused why ∷ xs) = λ fit. give_up_one p why own h xs
  brings_ends p f (s ∷ ss) own e h (a ∷ xs) = λ fit. absurd (unfit (pk f.group) (want.Look f (what.Whole s)) a (λ x. x) fit)

  pub mend_ends : (f : FileId) (own : Instances) → IsNone own → (xs : List Answer) → Ends pk (mend_wants f) own xs
  mend_ends f own none [] = none_gives (pk f.group) (want.OpenToMend f) own tt none
  mend_ends f own none (answer.Merging p kept ∷ xs) = λ fit. brings_ends p f kept (λ i. same_serial p i || own i) (packed_from (pk f.group) (want.OpenToMend f) (answer.Merging p kept) fit) (opened_one own p none) xs
  mend_ends f own none (answer.Refused why ∷ []) = λ fit. none
  mend_ends f own none (answer.Refused why ∷ (a ∷ xs)) = λ fit more. absurd more
  mend_ends f own none (a ∷ xs) = λ fit. absurd (unfit (pk f.group) (want.OpenToMend f) a (λ x. x) fit)

  -- ---- list and stat ----

  pub lists_ends : (shows : Shows) (reached : List ℕ) (f : FileId) (k : Kind) (own : Instances) → IsNone own → (xs : List Answer) → Ends pk (lists shows reached f k) own xs
  lists_ends shows reached f kind.File own none xs = give_ends (reply.No (refusal.NotDir reached)) own none xs
  lists_ends shows reached f kind.Dir own none [] = none_gives (pk f.group) (want.Look f what.List) own tt none
  lists_ends shows reached f kind.Dir own none (answer.Showed names ∷ []) = λ fit. none
  lists_ends shows reached f kind.Dir own none (answer.Showed names ∷ (a ∷ xs)) = λ fit more. absurd more
  lists_ends shows reached f kind.Dir own none (answer.Refused why ∷ []) = λ fit. none
  lists_ends shows reached f kind.Dir own none (answer.Refused why ∷ (a ∷ xs)) = λ fit more. absurd more
  lists_ends shows reached f kind.Dir own none (a ∷ xs) = λ fit. absurd (unfit (pk f.group) (want.Look f what.List) a (λ x. x) fit)

  pub describes_ends : (f : FileId) (k : Kind) (own : Instances) → IsNone own → (xs : List Answer) → Ends pk (describes f k) own xs
  describes_ends f k own none [] = none_gives (pk f.group) (want.Look f what.Stat) own tt none
  describes_ends f k own none (answer.Described found size stamp ∷ []) = λ fit. none
  describes_ends f k own none (answer.Described found size stamp ∷ (a ∷ xs)) = λ fit more. absurd more
  describes_ends f k own none (answer.Refused why ∷ []) = λ fit. none
  describes_ends f k own none (answer.Refused why ∷ (a ∷ xs)) = λ fit more. absurd more
  describes_ends f k own none (a ∷ xs) = λ fit. absurd (unfit (pk f.group) (want.Look f what.Stat) a (λ x. x) fit)
