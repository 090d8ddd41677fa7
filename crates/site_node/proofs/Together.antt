-- What becomes of the disk in one part of an event after another.
use Rattle.std.proofs.Common.{◌≡◌, ⊎_elim, ℕ, ◌+◌, ◌-◌, ◌*◌, ◌≤◌, ◌<◌, Bool, cond, List, [], ◌∷◌, ◌++◌, length, refl, sym, ap, ◌∙◌, subst, arith, inl, inr}
use Rattle.std.proofs.lemmas.List.{append-nil}
use Rattle.std.specs.Prelude.{◌⊎◌, Option, None, Some, is_some, Result, Ok, Err}
use Rattle.disk_model.specs.declared.disk.DiskFault.{DiskFault}
use Rattle.disk_model.specs.Cut.{Cut as HowCut}
use Rattle.disk_model.specs.Disk.{Moment, Exactly}
use Rattle.disk_model.specs.Images.{Torn}
use Rattle.disk_model.specs.Moments.{TellsMany}
use Rattle.disk_model.proofs.Moments.{leaves_weaker, on_ok}
use Rattle.disk_model.proofs.ReadRuns.{leaves_joins}
use Rattle.disk_model.proofs.Tells.{tells_join, tells_rest}
use Rattle.gate_switch.specs.Gates.{new_gate}
use Rattle.pack_layout.specs.Layout.{area_length}
use Rattle.site_packs.specs.of_inode_pack.Cutting.{are_both_open}
use Rattle.trace_book.specs.declared.record.Record.{Record}
use Rattle.wire_messages.specs.Outboxes.{Outgoing}
use Rattle.wire_messages.specs.declared.packet.Packet.{Packet}
use Rattle.packet_order.specs.Orders.{behind}
use Rattle.role_steps.specs.Tables.{row, with_row}
use Rattle.role_steps.specs.Storage.{copy_key}
use Rattle.role_steps.specs.Views.{DiskWrite, file_key}
use Rattle.role_steps.specs.declared.copies.FileCopy.{FileCopy}
use Rattle.site_packs.specs.declared.faults.WriteSize.{WriteSize}
use Rattle.site_packs.specs.Committing.{MayBeLeft, blocks_over, calls_of}
use Rattle.site_packs.specs.Copies.{copies_on}
use Rattle.site_packs.specs.Cutting.{IsCut, both_open_on}
use Rattle.site_packs.specs.Mounting.{AreSound}
use Rattle.site_packs.specs.Packs.{PacksState, SamePlaces, groups_of}
use Rattle.site_parts.specs.of_storage_site.of_store_instances.Writes.{LeavesEver, MayLeave, blocks_in, calls_in}
use Rattle.site_parts.specs.declared.fault.NodeFault.{NodeFault}
use Rattle.site_parts.specs.declared.fault.NodeFault.TheVariants.{NoMemory, Cut, NoNumber}
use Rattle.site_node.specs.Writing.{EventWrites, IsCutIn, replaces}
use Rattle.site_parts.proofs.Causes.{Causes, causes_at, causes_off, causes_then}
use Rattle.site_parts.proofs.Numbers.{memory_numbered}

same_fault : {T : Type 0} (e f : NodeFault) → ◌≡◌ {A = Result T NodeFault} (Err e) (Err f) → e ≡ f
same_fault e f h = cc

as_err : {T : Type 0} (e f : NodeFault) → e ≡ f → ◌≡◌ {A = Result T NodeFault} (Err e) (Err f)
as_err e f h = cc

-- ---- the same places of packs ----

module _ (p q : PacksState) (s : SamePlaces p q) where
  left_here : (made : FileCopy) (old new : List ℕ) → MayBeLeft q made old new → MayBeLeft p made old new
  left_here made old new k = record {
    copies = subst (λ (gs : List ℕ). (copies_on gs new ≡ copies_on gs old) ⊎ (copies_on gs new ≡ with_row copy_key made (copies_on gs old))) s.groups k.copies;
    sound = subst (λ (n : ℕ). AreSound n (groups_of p) new) s.site (subst (λ (gs : List ℕ). AreSound q.site gs new) s.groups k.sound);
    tables = k.tables;
    outside = subst (λ (gs : List ℕ). Torn 1024 (area_length * length gs) old new) s.groups k.outside;
  }

  pub leave_here : (w : Option DiskWrite) (old new : List ℕ) → MayLeave q w old new → MayLeave p w old new
  leave_here None old new k = k
  leave_here (Some w) old new k = left_here w.copy old new k

  replaces_here : (w : DiskWrite) (image : List ℕ) → replaces q image w ≡ replaces p image w
  replaces_here w image = ap (λ (gs : List ℕ). is_some (row copy_key (file_key w.copy.file) (copies_on gs image))) s.groups

  -- the pages and tables of a write
  blocks_here : (w : DiskWrite) (image : List ℕ) → blocks_in q image w ≡ blocks_in p image w
  blocks_here w image = ap (λ (gs : List ℕ). blocks_over (row copy_key (file_key w.copy.file) (copies_on gs image)) w.copy.content w.pages) s.groups

  pub calls_here : (w : Option DiskWrite) (image : List ℕ) → calls_in q image w ≡ calls_in p image w
  calls_here None image = refl
  calls_here (Some w) image = (λ i. calls_of (blocks_here w image i) (replaces_here w image i))

  is_cut_here : (made : FileCopy) (pages : ℕ) (how : HowCut) (passed : ℕ) (old new : List ℕ) → IsCut q made pages how passed old new → IsCut p made pages how passed old new
  is_cut_here made pages how passed old new k = record {
    left = left_here made old new k.left;
    copies = subst (λ (gs : List ℕ). copies_on gs new ≡ cond (new_gate pages how passed) (with_row copy_key made (copies_on gs old)) (copies_on gs old)) s.groups k.copies;
    both = subst (λ (gs : List ℕ). both_open_on gs new ≡ cond (are_both_open (is_some (row copy_key (file_key made.file) (copies_on gs old))) pages how passed) (made.file ∷ []) []) s.groups k.both;
  }

  -- behind a part that left the disk as it was, whose calls were as many as before
  pub cut_here : (w : Option DiskWrite) (size : WriteSize) (old mid new : Moment) (a b : Outgoing) → mid.seen ≡ old.seen → mid.how ≡ old.how → ((passed : ℕ) → old.passing ≡ Exactly passed → mid.passing ≡ Exactly passed) → IsCutIn w q size mid new a b → IsCutIn w p size old new a b
  cut_here None size old mid new a b e h t k = k
  cut_here (Some w) size old mid new a b e h t k = record {
    blocks = k.blocks ∙ blocks;
    older = k.older ∙ older;
    records = k.records;
    packets = k.packets;
    early = λ passed x. subst (λ (y : Bool). passed < calls_of (blocks_in p old.seen w) y) older (subst (λ (n : ℕ). passed < calls_of n (replaces q mid.seen w)) blocks (k.early passed (t passed x)));
    left = λ passed x. is_cut_here w.copy (blocks_in p old.seen w) old.how passed old.seen new.left (subst (λ (n : ℕ). IsCut q w.copy n old.how passed old.seen new.left) blocks (subst (λ (y : List ℕ). IsCut q w.copy (blocks_in q mid.seen w) old.how passed y new.left) e (subst (λ (y : HowCut). IsCut q w.copy (blocks_in q mid.seen w) y passed mid.seen new.left) h (k.left passed (t passed x)))));
  }
    where
      older : replaces q mid.seen w ≡ replaces p old.seen w
      older = ap (λ (y : List ℕ). replaces q y w) e ∙ replaces_here w old.seen

      blocks : blocks_in q mid.seen w ≡ blocks_in p old.seen w
      blocks = ap (λ (y : List ℕ). blocks_in q y w) e ∙ blocks_here w old.seen

-- ---- what is told where a part was cut off ----

told_in : (w : Option DiskWrite) (p : PacksState) (size : WriteSize) (m n : Moment) (a b before after : Outgoing) → a.packets ≡ [] → a.records ≡ [] → after ≡ behind before b → IsCutIn w p size m n a b → IsCutIn w p size m n before after
told_in None p size m n a b before after d e t k = k
told_in (Some w) p size m n a b before after d e t k = record {
  blocks = k.blocks;
  older = k.older;
  records = ap (λ (x : Outgoing). x.records) t ∙ ap (λ (rs : List Record). before.records ++ rs) (k.records ∙ ap (λ (rs : List Record). rs ++ w.says ∷ []) e);
  packets = ap (λ (x : Outgoing). x.packets) t ∙ (ap (λ (ps : List Packet). before.packets ++ ps) (k.packets ∙ d) ∙ append-nil before.packets);
  early = k.early;
  left = k.left;
}

abbrev IsHanded : NodeFault → NodeFault → Type 0
IsHanded e f = (f ≡ e) ⊎ (f ≡ NoMemory)

handed_causes : {T S : Type 0} (m n : Moment) (e f : NodeFault) → IsHanded e f → Causes {T = S} m n (Err e) → Causes {T = T} m n (Err f)
handed_causes {T = T} {S = S} m n e f h k =
    ⊎_elim (λ (is : f ≡ e). causes_at {T = T} {S = S} m n (Err f) e is k) (λ (is : f ≡ NoMemory). causes_at {T = T} {S = T} m n (Err f) NoMemory is (causes_off m n NoMemory tt k.cause.later)) h

no_cut : (size : WriteSize) → NoMemory ≡ Cut size → ⊥
no_cut size h = cc

handed_cut : (e f : NodeFault) (size : WriteSize) → IsHanded e f → f ≡ Cut size → e ≡ Cut size
handed_cut e f size h g = ⊎_elim (λ (is : f ≡ e). sym is ∙ g) (λ (is : f ≡ NoMemory). absurd (no_cut size (sym is ∙ g))) h

pub handed_numbered : (e f : NodeFault) → IsHanded e f → (e ≡ NoNumber → ⊥) → f ≡ NoNumber → ⊥
handed_numbered e f h n g = ⊎_elim (λ (is : f ≡ e). n (sym is ∙ g)) (λ (is : f ≡ NoMemory). memory_numbered (sym is ∙ g)) h

pub handed_spent : (P : Type 0) (e f : NodeFault) → IsHanded e f → (e ≡ NoNumber → P) → f ≡ NoNumber → P
handed_spent P e f h k g = ⊎_elim (λ (is : f ≡ e). k (sym is ∙ g)) (λ (is : f ≡ NoMemory). absurd (memory_numbered (sym is ∙ g))) h

-- the event hands on what its part has told
pub cut_told : {T S : Type 0} (w : Option DiskWrite) (p : PacksState) (m n : Moment) (a b before after : Outgoing) (e f : NodeFault) → a.packets ≡ [] → a.records ≡ [] → IsHanded e f → ((size : WriteSize) → f ≡ Cut size → after ≡ behind before b)
    → EventWrites {T = S} w p m n a b (Err e) → EventWrites {T = T} w p m n before after (Err f)
cut_told {T = T} {S = S} w p m n a b before after e f unsent empty is told k = let c : Causes {T = T} m n (Err f) = handed_causes {T = T} {S = S} m n e f is (record { cause = k.cause; told = k.told; free = k.free }) in record {
  leaves = k.leaves;
  how = k.how;
  passes = tt;
  cut = λ size g. let h : f ≡ Cut size = same_fault f (Cut size) g in told_in w p size m n a b before after unsent empty (told size h) (k.cut size (as_err {T = S} e (Cut size) (handed_cut e f size is h)));
  cause = c.cause;
  told = c.told;
  free = c.free;
}

-- ---- one part after another ----

module _ {D : Type 0} (moment : D → Moment) (reads : (d : D) → (moment d).may_leave (moment d).seen) (counts : (d : D) (t : ℕ) (c : List ℕ) → t ≤ (moment d).now → (moment d).may_leave c → (moment d).may_have_left t c) where
  abbrev Ever : Option DiskWrite → PacksState → D → List ℕ → Type 0
  Ever w p old image = (image ≡ (moment old).seen) ⊎ MayLeave p w (moment old).seen image

  -- what a read gives after a part is one of the images that a crash leaves
  seen_is : (w : Option DiskWrite) (p : PacksState) (old mid : D) → LeavesEver p w (moment old) (moment mid) → Ever w p old (moment mid).seen
  seen_is w p old mid k = k.each (moment mid).seen (counts mid (moment old).now (moment mid).seen k.later (reads mid))

  pub same_seen : (p : PacksState) (old mid : D) → LeavesEver p None (moment old) (moment mid) → (moment mid).seen ≡ (moment old).seen
  same_seen p old mid k = ⊎_elim (λ is. is) (λ is. is) (seen_is None p old mid k)

  wider : (w : Option DiskWrite) (p : PacksState) (old new : D) → LeavesEver p None (moment old) (moment new) → LeavesEver p w (moment old) (moment new)
  wider w p old new k = leaves_weaker moment old new (Ever None p old) (Ever w p old) (λ c is. ⊎_elim (λ one. inl one) (λ one. inl one) is) k

  -- a fault in what writes nothing
  pub none_failed : {T : Type 0} (w : Option DiskWrite) (p : PacksState) (old new : D) (a b : Outgoing) (e : NodeFault) → EventWrites {T = T} None p (moment old) (moment new) a b (Err e) → EventWrites {T = T} w p (moment old) (moment new) a b (Err e)
  none_failed w p old new a b e k = record { leaves = wider w p old new k.leaves; how = k.how; passes = tt; cut = λ size g. absurd (k.cut size g); cause = k.cause; told = k.told; free = k.free }

  -- a part, and then one that only reads
  pub then_reads : {S T : Type 0} (w : Option DiskWrite) (p q : PacksState) (old mid new : D) (a b c d before after : Outgoing) (x : S) (r : Result T NodeFault) → EventWrites w p (moment old) (moment mid) a b (Ok x) → EventWrites None q (moment mid) (moment new) c d r → EventWrites w p (moment old) (moment new) before after r
  then_reads {T = T} w p q old mid new a b c d before after x r one two = record {
    leaves = leaves_joins moment old mid new (Ever w p old) one.leaves (leaves_weaker moment mid new (Ever None q mid) (Ever w p old) (λ image is. ⊎_elim (again image) (again image) is) two.leaves);
    how = two.how ∙ one.how;
    passes = on_ok r (Many 0 mid new) (Many calls old new) all two.passes;
    cut = λ size g. absurd (two.cut size g);
    cause = causes.cause;
    told = causes.told;
    free = causes.free;
  }
    where
      Many : ℕ → D → D → Type 0
      Many n from to = TellsMany {T = Unit {0}} {E = DiskFault} n (moment from).passing (moment to).passing (Ok tt)

      calls : ℕ
      calls = calls_in p (moment old).seen w

      causes : Causes {T = T} (moment old) (moment new) r
      causes = causes_then calls (moment old) (moment mid) (moment new) r one.cause.later one.passes (record { cause = two.cause; told = two.told; free = two.free })

      again : (image : List ℕ) → image ≡ (moment mid).seen → Ever w p old image
      again image e = subst (Ever w p old) (sym e) (seen_is w p old mid one.leaves)

      all : Many 0 mid new → Many calls old new
      all t = let e : calls + 0 ≡ calls = omega arith in subst (λ (n : ℕ). Many n old new) e (tells_join calls 0 (moment old).passing (moment mid).passing (moment new).passing (Ok tt) one.passes t)

  -- one that only reads, and then a part
  pub reads_first : {S T : Type 0} (w : Option DiskWrite) (p q : PacksState) (old mid new : D) (a b c d : Outgoing) (x : S) (r : Result T NodeFault) → SamePlaces p q → EventWrites None p (moment old) (moment mid) a b (Ok x) → EventWrites w q (moment mid) (moment new) c d r → EventWrites w p (moment old) (moment new) c d r
  reads_first {T = T} w p q old mid new a b c d x r s one two = record {
    leaves = leaves_joins moment old mid new (Ever w p old) (wider w p old mid one.leaves) (leaves_weaker moment mid new (Ever w q mid) (Ever w p old) (λ image is. ⊎_elim (λ e. inl (e ∙ seen)) (λ k. inr (left_from image k)) is) two.leaves);
    how = two.how ∙ one.how;
    passes = on_ok r (Many (calls_in q (moment mid).seen w) mid new) (Many (calls_in p (moment old).seen w) old new) all two.passes;
    cut = λ size g. cut_here p q s w size (moment old) (moment mid) (moment new) c d seen one.how as_many (two.cut size g);
    cause = causes.cause;
    told = causes.told;
    free = causes.free;
  }
    where
      causes : Causes {T = T} (moment old) (moment new) r
      causes = causes_then 0 (moment old) (moment mid) (moment new) r one.cause.later one.passes (record { cause = two.cause; told = two.told; free = two.free })

      Many : ℕ → D → D → Type 0
      Many n from to = TellsMany {T = Unit {0}} {E = DiskFault} n (moment from).passing (moment to).passing (Ok tt)

      seen : (moment mid).seen ≡ (moment old).seen
      seen = same_seen p old mid one.leaves

      left_from : (image : List ℕ) → MayLeave q w (moment mid).seen image → MayLeave p w (moment old).seen image
      left_from image k = leave_here p q s w (moment old).seen image (subst (λ (y : List ℕ). MayLeave q w y image) seen k)

      calls_same : calls_in q (moment mid).seen w ≡ calls_in p (moment old).seen w
      calls_same = ap (λ (y : List ℕ). calls_in q y w) seen ∙ calls_here p q s w (moment old).seen

      all : Many (calls_in q (moment mid).seen w) mid new → Many (calls_in p (moment old).seen w) old new
      all t = let e : 0 + calls_in q (moment mid).seen w ≡ calls_in q (moment mid).seen w = omega arith in subst (λ (n : ℕ). Many n old new) (e ∙ calls_same) (tells_join 0 (calls_in q (moment mid).seen w) (moment old).passing (moment mid).passing (moment new).passing (Ok tt) one.passes t)

      as_many : (passed : ℕ) → (moment old).passing ≡ Exactly passed → (moment mid).passing ≡ Exactly passed
      as_many passed e = (tells_rest 0 (moment old).passing (moment mid).passing passed one.passes e).1 ∙ (let f : passed - 0 ≡ passed = omega arith in ap Exactly f)
