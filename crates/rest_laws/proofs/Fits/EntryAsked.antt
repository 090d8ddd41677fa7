-- What the scripts of calls that walk ask, once their walk is done: of each sort of request that such a script makes.
use Rattle.std.proofs.Common.{ℕ, List, [], ◌∷◌, Option}
use Rattle.locus_ids.specs.declared.ids.FileId.{FileId}
use Rattle.locus_ids.specs.declared.ids.Kind.{Kind}
use Rattle.locus_ids.specs.declared.ids.Kind.TheVariants as kind
use Rattle.locus_ids.specs.declared.ids.Serial.{Serial}
use Rattle.locus_ids.specs.declared.ids.Stamp.{Stamp}
use Rattle.locus_ids.specs.declared.refusal.Refusal.{Refusal}
use Rattle.locus_ids.specs.declared.sites.Sites.{Sites}
use Rattle.trace_book.specs.declared.call.Call.{Call}
use Rattle.trace_book.specs.declared.call.Call.TheVariants as call
use Rattle.trace_book.specs.declared.call.OpenMode.{OpenMode}
use Rattle.trace_book.specs.declared.call.OpenMode.TheVariants as how
use Rattle.trace_book.specs.declared.operation.Op.{Op}
use Rattle.trace_book.specs.declared.operation.Op.TheVariants as op
use Rattle.trace_book.specs.declared.operation.Outcome.TheVariants as outcome
use Rattle.trace_book.specs.declared.operation.What.{What}
use Rattle.trace_book.specs.declared.operation.What.TheVariants as what
use Rattle.trace_book.specs.declared.reply.Reply.{Reply}
use Rattle.trace_book.specs.declared.reply.Reply.TheVariants as reply
use Rattle.call_rules.specs.Closing.{Unchanged, close_all, closes, gives, give_up}
use Rattle.call_rules.specs.Making.{after_insert, after_make, fills, after_probe, opens_dir, probes}
use Rattle.call_rules.specs.Mending.{after_mend, brings, mend_wants}
use Rattle.call_rules.specs.Naming.{renames}
use Rattle.call_rules.specs.Opening.{close_wants, describes, lists, op_wants, uses_wants, Shows}
use Rattle.call_rules.specs.Removing.{by_kind, empties, finds, opens_target, removes}
use Rattle.call_rules.specs.declared.answer.Answer.{Answer}
use Rattle.call_rules.specs.declared.answer.Answer.TheVariants as answer
use Rattle.call_rules.specs.declared.want.Want.{Want}
use Rattle.call_rules.specs.declared.want.Want.TheVariants as want

-- an operation that a call does on directories, beside inserts
abbrev pub IsOfDirs : Op → Type 0
IsOfDirs (op.Insert name ino kind) = ⊥
IsOfDirs (op.Read at len) = ⊥
IsOfDirs (op.Write at bytes) = ⊥
IsOfDirs (op.Cut len) = ⊥
IsOfDirs op.Commit = ⊥
IsOfDirs _ = Unit {0}

-- an operation that a call does by a descriptor
abbrev pub IsOfFiles : Op → Type 0
IsOfFiles (op.Read at len) = Unit {0}
IsOfFiles (op.Write at bytes) = Unit {0}
IsOfFiles (op.Cut len) = Unit {0}
IsOfFiles op.Commit = Unit {0}
IsOfFiles op.Abort = Unit {0}
IsOfFiles _ = ⊥

-- a look that asks no component
abbrev pub IsWhole : What → Type 0
IsWhole (what.Name component) = ⊥
IsWhole _ = Unit {0}

-- what is so of each request of a script after its walk
pub record Parts (P : Want → Type 0) : Type 0 where
  pub gives : (r : Reply) → P (want.Give r)
  pub never : P want.Never
  pub closes : (i : Serial) → P (want.Close i)
  pub does : (i : Serial) (o : Op) → IsOfDirs o → P (want.Do i o)
  pub opens : (f : FileId) (m : OpenMode) → P (want.Open f m)
  pub mends : (f : FileId) → P (want.OpenToMend f)
  pub makes : (g : ℕ) (k : Kind) (sites : Option Sites) → P (want.Make g k sites)
  pub looks : (f : FileId) (w : What) → IsWhole w → P (want.Look f w)

module _ (P : Want → Type 0) (is : Parts P) where
  -- ---- how a call ends ----

  gives_so : (r : Reply) (xs : List Answer) → P (gives r xs)
  gives_so r [] = is.gives r
  gives_so r (x ∷ xs) = is.never

  closes_so : (i : Serial) (next : List Answer → Want) → ((xs : List Answer) → P (next xs)) → (xs : List Answer) → P (closes i next xs)
  closes_so i next h [] = is.closes i
  closes_so i next h (answer.Ended stamp ∷ rest) = h rest
  closes_so i next h (answer.Refused why ∷ rest) = h rest
  closes_so i next h (_ ∷ rest) = is.never

  pub give_up_one : (p : Serial) (why : Refusal) (xs : List Answer) → P (give_up (Unchanged p ∷ []) why xs)
  give_up_one p why xs = closes_so p (gives (reply.No why)) (gives_so (reply.No why)) xs

  pub give_up_two : (p t : Serial) (why : Refusal) (xs : List Answer) → P (give_up (Unchanged p ∷ Unchanged t ∷ []) why xs)
  give_up_two p t why xs = closes_so p (give_up (Unchanged t ∷ []) why) (give_up_one t why) xs

  refused_so : (is_open : List Serial) (r : Reply) (i : Serial) (why : Refusal) (xs : List Answer) → P (close_all (i ∷ is_open) r (answer.Refused why ∷ xs))
  refused_so [] r i why xs = gives_so _ xs
  refused_so (j ∷ js) r i why [] = is.closes j
  refused_so (j ∷ js) r i why (answer.Ended stamp ∷ rest) = refused_so js r j why rest
  refused_so (j ∷ js) r i why (answer.Refused other ∷ rest) = refused_so js r j why rest
  refused_so (j ∷ js) r i why (_ ∷ rest) = is.never

  pub close_all_so : (is_open : List Serial) (r : Reply) (xs : List Answer) → P (close_all is_open r xs)
  close_all_so [] r xs = gives_so r xs
  close_all_so (i ∷ others) r [] = is.closes i
  close_all_so (i ∷ others) r (answer.Ended stamp ∷ rest) = close_all_so others r rest
  close_all_so (i ∷ others) r (answer.Refused why ∷ rest) = refused_so others r i why rest
  close_all_so (i ∷ others) r (_ ∷ rest) = is.never

  pub opens_dir_so : (reached : List ℕ) (next : Serial → List Answer → Want) → ((p : Serial) (xs : List Answer) → P (next p xs)) → (dir : FileId) (k : Kind) (xs : List Answer) → P (opens_dir reached next dir k xs)
  opens_dir_so reached next h dir kind.File xs = is.gives _
  opens_dir_so reached next h dir kind.Dir [] = is.opens dir how.Write
  opens_dir_so reached next h dir kind.Dir (answer.Opened p ino ∷ rest) = h p rest
  opens_dir_so reached next h dir kind.Dir (answer.Refused why ∷ rest) = is.gives _
  opens_dir_so reached next h dir kind.Dir (_ ∷ rest) = is.never

  -- ---- create and mkdir ----

  -- what a new file begins with is written at once
  abbrev pub WritesSo : List ℕ → Type 0
  WritesSo [] = Unit {0}
  WritesSo (b ∷ bs) = (i : Serial) → P (want.Do i (op.Write 0 (b ∷ bs)))

  module _ (inserts : (i : Serial) (name : List ℕ) (ino : ℕ) (k : Kind) → P (want.Do i (op.Insert name ino k))) where
    after_insert_so : (p : Serial) (name : List ℕ) (k : Kind) (ino : ℕ) (told : Reply) (xs : List Answer) → P (after_insert p name k ino told xs)
    after_insert_so p name k ino told [] = inserts p name ino k
    after_insert_so p name k ino told (answer.Did o ∷ rest) = close_all_so (p ∷ []) told rest
    after_insert_so p name k ino told (answer.Refused why ∷ rest) = give_up_one p why rest
    after_insert_so p name k ino told (_ ∷ rest) = is.never

    after_make_so : (p : Serial) (name : List ℕ) (k : Kind) (made : Serial) (ino : ℕ) (told : Reply) (xs : List Answer) → P (after_make p name k made ino told xs)
    after_make_so p name k made ino told [] = is.closes made
    after_make_so p name k made ino told (answer.Ended stamp ∷ rest) = after_insert_so p name k ino told rest
    after_make_so p name k made ino told (answer.Refused why ∷ rest) = give_up_one p why rest
    after_make_so p name k made ino told (_ ∷ rest) = is.never

    fills_so : (p : Serial) (name : List ℕ) (k : Kind) (bytes : List ℕ) (made : Serial) (ino : ℕ) (told : Reply) → WritesSo bytes → (xs : List Answer) → P (fills p name k bytes made ino told xs)
    fills_so p name k [] made ino told writes xs = after_make_so p name k made ino told xs
    fills_so p name k (b ∷ bs) made ino told writes [] = writes made
    fills_so p name k (b ∷ bs) made ino told writes (answer.Did o ∷ rest) = after_make_so p name k made ino told rest
    fills_so p name k (b ∷ bs) made ino told writes (answer.Refused why ∷ rest) = give_up_two made p why rest
    fills_so p name k (b ∷ bs) made ino told writes (_ ∷ rest) = is.never

    after_probe_so : (p : Serial) (group : ℕ) (name : List ℕ) (k : Kind) (sites : Option Sites) (bytes : List ℕ) (tells : ℕ → Reply) → WritesSo bytes → (xs : List Answer) → P (after_probe p group name k sites bytes tells xs)
    after_probe_so p group name k sites bytes tells writes [] = is.makes group k sites
    after_probe_so p group name k sites bytes tells writes (answer.Opened made ino ∷ rest) = fills_so p name k bytes made ino (tells ino) writes rest
    after_probe_so p group name k sites bytes tells writes (answer.Refused why ∷ rest) = give_up_one p why rest
    after_probe_so p group name k sites bytes tells writes (_ ∷ rest) = is.never

    pub probes_so : (p : Serial) (group : ℕ) (name : List ℕ) (k : Kind) (sites : Option Sites) (bytes : List ℕ) (tells : ℕ → Reply) → WritesSo bytes → (xs : List Answer) → P (probes p group name k sites bytes tells xs)
    probes_so p group name k sites bytes tells writes [] = is.does p (op.Probe name) tt
    probes_so p group name k sites bytes tells writes (answer.Did o ∷ rest) = after_probe_so p group name k sites bytes tells writes rest
    probes_so p group name k sites bytes tells writes (answer.Refused why ∷ rest) = give_up_one p why rest
    probes_so p group name k sites bytes tells writes (_ ∷ rest) = is.never

  -- ---- unlink, rmdir and rename ----

  removes_so : (p t : Serial) (name : List ℕ) (ino : ℕ) (xs : List Answer) → P (removes p t name ino xs)
  removes_so p t name ino [] = is.does p (op.Remove name ino) tt
  removes_so p t name ino (answer.Did o ∷ rest) = close_all_so (p ∷ t ∷ []) reply.Done rest
  removes_so p t name ino (answer.Refused why ∷ rest) = give_up_two p t why rest
  removes_so p t name ino (_ ∷ rest) = is.never

  empties_so : (k : Kind) (p t : Serial) (name : List ℕ) (ino : ℕ) (xs : List Answer) → P (empties k p t name ino xs)
  empties_so kind.File p t name ino xs = removes_so p t name ino xs
  empties_so kind.Dir p t name ino [] = is.does t op.Empty tt
  empties_so kind.Dir p t name ino (answer.Did o ∷ rest) = removes_so p t name ino rest
  empties_so kind.Dir p t name ino (answer.Refused why ∷ rest) = give_up_two p t why rest
  empties_so kind.Dir p t name ino (_ ∷ rest) = is.never

  target_so : (k : Kind) (p : Serial) (group : ℕ) (name : List ℕ) (ino : ℕ) (xs : List Answer) → P (opens_target k p group name ino xs)
  target_so k p group name ino [] = is.opens _ how.Write
  target_so k p group name ino (answer.Opened t found ∷ rest) = empties_so k p t name ino rest
  target_so k p group name ino (answer.Refused why ∷ rest) = give_up_one p why rest
  target_so k p group name ino (_ ∷ rest) = is.never

  by_kind_so : (k found : Kind) (p : Serial) (group : ℕ) (component : List ℕ) (ino : ℕ) (xs : List Answer) → P (by_kind k found p group component ino xs)
  by_kind_so kind.File kind.File p group component ino xs = target_so kind.File p group _ ino xs
  by_kind_so kind.Dir kind.Dir p group component ino xs = target_so kind.Dir p group _ ino xs
  by_kind_so kind.File kind.Dir p group component ino xs = give_up_one p _ xs
  by_kind_so kind.Dir kind.File p group component ino xs = give_up_one p _ xs

  pub finds_so : (k : Kind) (p : Serial) (group : ℕ) (component : List ℕ) (xs : List Answer) → P (finds k p group component xs)
  finds_so k p group component [] = is.does p (op.Find component) tt
  finds_so k p group component (answer.Did (outcome.Found ino found) ∷ rest) = by_kind_so k found p group component ino rest
  finds_so k p group component (answer.Refused why ∷ rest) = give_up_one p why rest
  finds_so k p group component (_ ∷ rest) = is.never

  pub renames_so : (p : Serial) (component name : List ℕ) (xs : List Answer) → P (renames p component name xs)
  renames_so p component name [] = is.does p (op.Rename component name) tt
  renames_so p component name (answer.Did o ∷ rest) = close_all_so (p ∷ []) reply.Done rest
  renames_so p component name (answer.Refused why ∷ rest) = give_up_one p why rest
  renames_so p component name (_ ∷ rest) = is.never

  -- ---- mend, list and stat ----

  pub close_so : (i : Serial) (xs : List Answer) → P (close_wants i xs)
  close_so i [] = is.closes i
  close_so i (answer.Ended stamp ∷ []) = is.gives _
  close_so i (answer.Refused why ∷ []) = is.gives _
  close_so i (_ ∷ rest) = is.never

  after_mend_so : (i : Serial) (xs : List Answer) → P (after_mend i xs)
  after_mend_so i [] = is.does i op.Mend tt
  after_mend_so i (answer.Did o ∷ rest) = close_so i rest
  after_mend_so i (answer.Refused why ∷ rest) = give_up_one i why rest
  after_mend_so i (_ ∷ rest) = is.never

  brings_so : (i : Serial) (f : FileId) (stamps : List Stamp) (xs : List Answer) → P (brings i f stamps xs)
  brings_so i f [] xs = after_mend_so i xs
  brings_so i f (s ∷ ss) [] = is.looks f (what.Whole s) tt
  brings_so i f (s ∷ ss) (answer.Brought ∷ rest) = brings_so i f ss rest
  brings_so i f (s ∷ ss) (answer.Refused why ∷ rest) = give_up_one i why rest
  brings_so i f (s ∷ ss) (_ ∷ rest) = is.never

  pub mend_so : (f : FileId) (xs : List Answer) → P (mend_wants f xs)
  mend_so f [] = is.mends f
  mend_so f (answer.Merging i kept ∷ rest) = brings_so i f kept rest
  mend_so f (answer.Refused why ∷ []) = is.gives _
  mend_so f (_ ∷ rest) = is.never

  pub lists_so : (shows : Shows) (reached : List ℕ) (f : FileId) (k : Kind) (xs : List Answer) → P (lists shows reached f k xs)
  lists_so shows reached f kind.File xs = is.gives _
  lists_so shows reached f kind.Dir [] = is.looks f what.List tt
  lists_so shows reached f kind.Dir (answer.Showed names ∷ []) = is.gives _
  lists_so shows reached f kind.Dir (answer.Refused why ∷ []) = is.gives _
  lists_so shows reached f kind.Dir (_ ∷ rest) = is.never

  pub describes_so : (f : FileId) (k : Kind) (xs : List Answer) → P (describes f k xs)
  describes_so f k [] = is.looks f what.Stat tt
  describes_so f k (answer.Described found size stamp ∷ []) = is.gives _
  describes_so f k (answer.Refused why ∷ []) = is.gives _
  describes_so f k (_ ∷ rest) = is.never

-- ---- a call on a descriptor ----

-- what is so of each request but an operation
pub record UserParts (P : Want → Type 0) : Type 0 where
  pub gives : (r : Reply) → P (want.Give r)
  pub never : P want.Never
  pub closes : (i : Serial) → P (want.Close i)

module _ (P : Want → Type 0) (is : UserParts P) where
  op_so : (i : Serial) (o : Op) (xs : List Answer) → P (want.Do i o) → P (op_wants i o xs)
  op_so i o [] h = h
  op_so i o (answer.Did result ∷ []) h = is.gives _
  op_so i o (answer.Refused why ∷ []) h = is.gives _
  op_so i o (_ ∷ rest) h = is.never

  ends_so : (i : Serial) (xs : List Answer) → P (close_wants i xs)
  ends_so i [] = is.closes i
  ends_so i (answer.Ended stamp ∷ []) = is.gives _
  ends_so i (answer.Refused why ∷ []) = is.gives _
  ends_so i (_ ∷ rest) = is.never

  pub uses_so : ((j : Serial) (o : Op) → IsOfFiles o → P (want.Do j o)) → (words : Call) (i : Serial) (xs : List Answer) → P (uses_wants words i xs)
  uses_so h (call.Read fd at len) i xs = op_so i (op.Read at len) xs (h i (op.Read at len) tt)
  uses_so h (call.Write fd at bytes) i xs = op_so i (op.Write at bytes) xs (h i (op.Write at bytes) tt)
  uses_so h (call.Cut fd len) i xs = op_so i (op.Cut len) xs (h i (op.Cut len) tt)
  uses_so h (call.Commit fd) i xs = op_so i op.Commit xs (h i op.Commit tt)
  uses_so h (call.Abort fd) i xs = op_so i op.Abort xs (h i op.Abort tt)
  uses_so h (call.Close fd) i xs = ends_so i xs
  uses_so h _ i xs = is.never
