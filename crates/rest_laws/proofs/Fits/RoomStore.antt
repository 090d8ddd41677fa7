-- What storage sites do in the room of their packs.
use Rattle.std.proofs.Common.{◌≡◌, ◌≤◌, ℕ, ◌+◌, ◌-◌, ◌==◌, nat_lt, Bool, true, false, ◌&&◌, cond, List, [], length, Option, None, Some, refl, sym, ◌∙◌, ap, subst, arith}
use Rattle.std.proofs.lemmas.Bool.Decides.{nat_tests}
use Rattle.role_steps.proofs.of_plain_facts.Numbers.{equal}
use Rattle.role_steps.proofs.of_plain_facts.Options.{some_same}
use Rattle.role_steps.proofs.of_plain_facts.Tests.{true_false}
use Rattle.locus_ids.specs.declared.ids.Mode.{Mode}
use Rattle.locus_ids.specs.declared.ids.Mode.TheVariants as mode
use Rattle.locus_ids.specs.declared.ids.Serial.{Serial}
use Rattle.locus_ids.specs.declared.ids.Stamp.{Stamp}
use Rattle.locus_ids.specs.declared.refusal.Refusal.TheVariants as refusal
use Rattle.locus_ids.specs.Sizes.{file_bytes_max, pack_pages}
use Rattle.trace_book.specs.declared.operation.Op.{Op}
use Rattle.trace_book.specs.declared.operation.Op.TheVariants as op
use Rattle.trace_book.specs.declared.operation.Outcome.{Outcome as Result}
use Rattle.trace_book.specs.declared.operation.Outcome.TheVariants as outcome
use Rattle.file_content.specs.Pages.{pages_needed, pages_of}
use Rattle.file_effects.specs.Effects.{As, Effect, Mends, Removes, effect, is_refusal}
use Rattle.file_effects.specs.Works.{aborted, carried_out, counted, operated, result_in}
use Rattle.file_effects.specs.declared.work.Work.{Work}
use Rattle.wire_messages.specs.declared.body.MadeVersion.{MadeVersion}
use Rattle.wire_messages.specs.declared.body.CloseAnswer.{CloseAnswer}
use Rattle.wire_messages.specs.declared.body.CloseAnswer.TheVariants as closing
use Rattle.dir_format.specs.declared.entry.Entry.{Entry}
use Rattle.dir_format.specs.Entries.{nothing_seen}
use Rattle.dir_format.specs.Grammar.{dir_bytes}
use Rattle.dir_reconcile.specs.Rescues.{rescue_is_spent, rescued}
use Rattle.role_steps.specs.Storage.{StoreRequest, begun_instance, changed_pages, closes_owing, commits, content_of, copy_key, copy_made, copy_of, copy_pages, ends_at, free_pages, instance_committed, instance_key, instance_of, is_open, is_open_in, is_spent, made_version, next_stamp, next_vector, on_close, on_close_at, on_close_of, on_closed_ok, on_closed_ok_of, on_open_ss, on_open_ss_of, opens, opens_made, own_ino, shut, shuts, shuts_again, with_instance}
use Rattle.role_steps.specs.Operations.{by_number, op_again, acts, acts_committed, commits_owing, executes, executes_effect, in_form, last_committed, nothing_to_mend, on_op, on_op_at, on_op_of, on_read_held}
use Rattle.role_steps.specs.OperationEffects.{Mending, effect_of, has_several, joined_contents, or_spent}
use Rattle.role_steps.specs.Tables.{row, total, with_latest, with_row}
use Rattle.role_steps.specs.Views.{DiskWrite, Frame, Outcome, Store, and_then, first_written, quiet, sends, serial_key}
use Rattle.role_steps.specs.declared.copies.FileCopy.{FileCopy}
use Rattle.role_steps.specs.declared.instances.Instance.{Instance}
use Rattle.role_steps.specs.declared.instances.Stage.{Stage}
use Rattle.role_steps.specs.declared.instances.Stage.TheVariants as stage
use Rattle.tree_laws.specs.Stores.{Ascends}
use Rattle.store_laws.proofs.OneTree.Rising.{row_key}
use Rattle.rest_laws.specs.Fits.Room.{RoomFits}
use Rattle.store_laws.specs.Works.Working.{ChangesPages, FitsOver}
use Rattle.store_laws.proofs.Works.Effects.{effect_so}
use Rattle.rest_laws.proofs.Fits.Totals.{after_length, few_pages, latest_total, measured, row_total}

-- ---- shapes of steps ----

-- nothing is written, and no more pages are changed
pub record Calm (old new : Store) (written : Option DiskWrite) : Type 0 where
  pub copies : new.copies ≡ old.copies
  pub changed : (g : ℕ) → total (changed_pages g) new.instances ≤ total (changed_pages g) old.instances
  pub none : written ≡ None

-- the copies have room once this one is written
abbrev pub WriteRoom : Store → Option DiskWrite → Type 0
WriteRoom old None = Unit {0}
WriteRoom old (Some d) = (g : ℕ) → total (copy_pages g) (with_row copy_key d.copy old.copies) ≤ pack_pages

pub record Rooms (old new : Store) (written : Option DiskWrite) : Type 0 where
  pub view : RoomFits old → RoomFits new
  pub disk : RoomFits old → WriteRoom old written

same_less : (a b : ℕ) → a ≡ b → a ≤ b
same_less a b e = omega (arith, e)

pub calm_same : (old new : Store) (written : Option DiskWrite) → new ≡ old → written ≡ None → Calm old new written
calm_same old new written e none = record { copies = ap (λ (s : Store). s.copies) e; changed = λ g. same_less _ _ (ap (λ (s : Store). total (changed_pages g) s.instances) e); none = none }

calm_fits : (old new : Store) (written : Option DiskWrite) → Calm old new written → RoomFits old → RoomFits new
calm_fits old new written k h g = sum (total (copy_pages g) new.copies) (total (copy_pages g) old.copies) (total (changed_pages g) new.instances) (total (changed_pages g) old.instances) (ap (λ (xs : List FileCopy). total (copy_pages g) xs) k.copies) (k.changed g) (h g)
  where
    sum : (a b x y : ℕ) → a ≡ b → x ≤ y → b + y ≤ pack_pages → a + x ≤ pack_pages
    sum a b x y e l m = omega (arith, e, l, m)

pub calm_rooms : (old new : Store) (written : Option DiskWrite) → Calm old new written → Rooms old new written
calm_rooms old new written k = record { view = calm_fits old new written k; disk = λ h. subst (WriteRoom old) (sym k.none) tt }

none_then : (v w : Option DiskWrite) → v ≡ None → w ≡ None → first_written v w ≡ None
none_then v w e f = subst (λ (x : Option DiskWrite). first_written x w ≡ None) (sym e) f

pub calm_then : (old mid new : Store) (v w : Option DiskWrite) → Calm old mid v → Calm mid new w → Calm old new (first_written v w)
calm_then old mid new v w a b = record { copies = b.copies ∙ a.copies; changed = λ g. through (total (changed_pages g) new.instances) (total (changed_pages g) mid.instances) (total (changed_pages g) old.instances) (b.changed g) (a.changed g); none = none_then v w a.none b.none }
  where
    through : (x y z : ℕ) → x ≤ y → y ≤ z → x ≤ z
    through x y z p q = omega (arith, p, q)

write_then : (old : Store) (v w : Option DiskWrite) → WriteRoom old v → w ≡ None → WriteRoom old (first_written v w)
write_then old None w h e = subst (WriteRoom old) (sym e) tt
write_then old (Some d) w h e = h

-- first something in the room, and then nothing more
pub rooms_then : (old mid new : Store) (v w : Option DiskWrite) → Rooms old mid v → Calm mid new w → Rooms old new (first_written v w)
rooms_then old mid new v w a b = record { view = λ h. calm_fits mid new w b (a.view h); disk = λ h. write_then old v w (a.disk h) b.none }

write_from : (old mid : Store) (w : Option DiskWrite) → mid.copies ≡ old.copies → WriteRoom mid w → WriteRoom old w
write_from old mid None e h = tt
write_from old mid (Some d) e h = λ g. subst (λ (xs : List FileCopy). total (copy_pages g) (with_row copy_key d.copy xs) ≤ pack_pages) e (h g)

-- first nothing, and then something in the room
pub then_rooms : (old mid new : Store) (v w : Option DiskWrite) → Calm old mid v → Rooms mid new w → Rooms old new w
then_rooms old mid new v w a b = record { view = λ h. b.view (calm_fits old mid v a h); disk = λ h. write_from old mid w a.copies (b.disk (calm_fits old mid v a h)) }

-- ---- an instance in place of another ----

found_at : (s : Store) (inst : Serial) (i : Instance) → instance_of s inst ≡ Some i → row instance_key (instance_key i) s.instances ≡ Some i
found_at s inst i e = subst (λ (k : ℕ). row instance_key k s.instances ≡ Some i) (sym (row_key instance_key (serial_key inst) s.instances i e).1) e

module _ (s : Store) (i j : Instance) (found : row instance_key (instance_key i) s.instances ≡ Some i) (key_is : instance_key j ≡ instance_key i) where
  exchanged : (g : ℕ) → total (changed_pages g) (with_latest instance_key j s.instances) + changed_pages g i ≡ total (changed_pages g) s.instances + changed_pages g j
  exchanged g = ap (λ (o : Option Instance). total (changed_pages g) (with_latest instance_key j s.instances) + measured (changed_pages g) o) (sym (ap (λ (k : ℕ). row instance_key k s.instances) key_is ∙ found)) ∙ latest_total (changed_pages g) instance_key j s.instances

  pub less_changed : ((g : ℕ) → changed_pages g j ≤ changed_pages g i) → (g : ℕ) → total (changed_pages g) (with_latest instance_key j s.instances) ≤ total (changed_pages g) s.instances
  less_changed le g = sum (total (changed_pages g) (with_latest instance_key j s.instances)) (total (changed_pages g) s.instances) (changed_pages g i) (changed_pages g j) (exchanged g) (le g)
    where
      sum : (a b x y : ℕ) → a + x ≡ b + y → y ≤ x → a ≤ b
      sum a b x y e l = omega (arith, e, l)

  pub calm_put : ((g : ℕ) → changed_pages g j ≤ changed_pages g i) → Calm s (with_instance j s) None
  calm_put le = record { copies = refl; changed = less_changed le; none = refl }

-- the same instance with as many changed pages at most
fewer : (b : Bool) (m n : ℕ) → m ≤ n → cond b m 0 ≤ cond b n 0
fewer true m n le = le
fewer false m n le = omega arith

acts_calm : (f : Frame) (i : Instance) (o : Op) (r : Result) (w : Work) (s : Store) → row instance_key (instance_key i) s.instances ≡ Some i → length w.changed ≤ length i.work.changed → Calm s (acts f i o r w s).view (acts f i o r w s).written
acts_calm f i o r w s found le = calm_put s i (record i { work = w; answered = Some r }) found refl (λ g. fewer (is_open_in g i) (length w.changed) (length i.work.changed) le)

shut_less : (i : Instance) (made : Option MadeVersion) (a : CloseAnswer) (g : ℕ) → changed_pages g (shut i made a) ≤ changed_pages g i
shut_less i made a g = none (is_open_in g (shut i made a)) (changed_pages g i)
  where
    none : (b : Bool) (n : ℕ) → cond b 0 0 ≤ n
    none true n = omega arith
    none false n = omega arith

shuts_calm : (f : Frame) (i : Instance) (a : CloseAnswer) (s : Store) → row instance_key (instance_key i) s.instances ≡ Some i → Calm s (shuts f i a s).view (shuts f i a s).written
shuts_calm f i a s found = calm_put s i (shut i (made_version i (copy_of s i.file) i.work.committed) a) found refl (shut_less i (made_version i (copy_of s i.file) i.work.committed) a)

-- ---- a commit ----

-- an instance that runs, over the copy of its file
pub record FitsHere (s : Store) (i : Instance) : Type 0 where
  pub fits : FitsOver (content_of (copy_of s i.file)) i.work.content i.work.changed
  pub own : (y : FileCopy) → copy_of s i.file ≡ Some y → y.file.group ≡ i.file.group

pub record StoreGood (s : Store) : Type 0 where
  pub ascends : Ascends copy_key s.copies
  pub runs : (inst : Serial) (i : Instance) → instance_of s inst ≡ Some i → i.stage ≡ stage.Running → FitsHere s i

module _ (f : Frame) (s : Store) (good : Ascends copy_key s.copies) (i : Instance) (found : row instance_key (instance_key i) s.instances ≡ Some i) (runs : i.stage ≡ stage.Running) (here : FitsHere s i) where
  abbrev new_copy : FileCopy
  new_copy = copy_made i (next_vector f i) (next_stamp f (next_vector f i))

  abbrev next : Instance
  next = instance_committed i (next_vector f i) (next_stamp f (next_vector f i))

  open_is : is_open i.stage ≡ true
  open_is = ap is_open runs

  zero_changed : (g : ℕ) → changed_pages g next ≡ 0
  zero_changed g = over (is_open_in g next)
    where
      over : (b : Bool) → cond {A = ℕ} b 0 0 ≡ 0
      over true = refl
      over false = refl

  was_changed : (g : ℕ) → (i.file.group == g) ≡ true → changed_pages g i ≡ length i.work.changed
  was_changed g q = ap (λ (b : Bool). cond b (length i.work.changed) 0) (ap (λ (b : Bool). b && (i.file.group == g)) open_is ∙ q)

  made_pages : (g : ℕ) (b : Bool) → (i.file.group == g) ≡ b → copy_pages g new_copy ≡ cond b (pages_of (length i.work.content)) 0
  made_pages g b q = ap (λ (x : Bool). cond x (pages_of (length i.work.content)) 0) q

  old_pages : (g : ℕ) → (i.file.group == g) ≡ true → (o : Option FileCopy) → copy_of s i.file ≡ o → measured (copy_pages g) o ≡ pages_of (length (content_of o))
  old_pages g q None e = refl
  old_pages g q (Some y) e = ap (λ (x : Bool). cond x (pages_of (length y.content)) 0) (subst (λ (n : ℕ). (n == g) ≡ true) (sym (here.own y e)) q)

  -- what the copies and the changed pages of a group come to
  counts : (g : ℕ) (b : Bool) → (i.file.group == g) ≡ b → (total (copy_pages g) s.copies + total (changed_pages g) s.instances ≤ pack_pages) →
      (total (copy_pages g) (with_row copy_key new_copy s.copies) + total (changed_pages g) (with_latest instance_key next s.instances) ≤ pack_pages) × (total (copy_pages g) (with_row copy_key new_copy s.copies) ≤ pack_pages)
  counts g true q h =
      let copies : total (copy_pages g) (with_row copy_key new_copy s.copies) + measured (copy_pages g) (copy_of s i.file) ≡ total (copy_pages g) s.copies + copy_pages g new_copy = row_total (copy_pages g) copy_key new_copy s.copies good in
      let changed : total (changed_pages g) (with_latest instance_key next s.instances) + changed_pages g i ≡ total (changed_pages g) s.instances + changed_pages g next = exchanged s i next found refl g in
      let pages : pages_of (length i.work.content) ≤ pages_of (length (content_of (copy_of s i.file))) + length i.work.changed = few_pages (content_of (copy_of s i.file)) i.work.content i.work.changed here.fits in
      sum (total (copy_pages g) (with_row copy_key new_copy s.copies)) (measured (copy_pages g) (copy_of s i.file)) (total (copy_pages g) s.copies) (copy_pages g new_copy)
      (total (changed_pages g) (with_latest instance_key next s.instances)) (changed_pages g i) (total (changed_pages g) s.instances) (changed_pages g next)
      (pages_of (length i.work.content)) (pages_of (length (content_of (copy_of s i.file)))) (length i.work.changed)
      copies changed pages (made_pages g true q) (old_pages g q (copy_of s i.file) refl) (was_changed g q) (zero_changed g) h
    where
      sum : (tc' po tc pm ti' mi ti mj pc pb lc : ℕ) → tc' + po ≡ tc + pm → ti' + mi ≡ ti + mj → pc ≤ pb + lc → pm ≡ pc → po ≡ pb → mi ≡ lc → mj ≡ 0 → tc + ti ≤ pack_pages → (tc' + ti' ≤ pack_pages) × (tc' ≤ pack_pages)
      sum tc' po tc pm ti' mi ti mj pc pb lc a b d e f g h k = (omega (arith, a, b, d, e, f, g, h, k), omega (arith, a, b, d, e, f, g, h, k))
  counts g false q h =
      let copies : total (copy_pages g) (with_row copy_key new_copy s.copies) + measured (copy_pages g) (copy_of s i.file) ≡ total (copy_pages g) s.copies + copy_pages g new_copy = row_total (copy_pages g) copy_key new_copy s.copies good in
      let changed : total (changed_pages g) (with_latest instance_key next s.instances) + changed_pages g i ≡ total (changed_pages g) s.instances + changed_pages g next = exchanged s i next found refl g in
      sum (total (copy_pages g) (with_row copy_key new_copy s.copies)) (measured (copy_pages g) (copy_of s i.file)) (total (copy_pages g) s.copies) (copy_pages g new_copy)
      (total (changed_pages g) (with_latest instance_key next s.instances)) (changed_pages g i) (total (changed_pages g) s.instances) (changed_pages g next)
      copies changed (made_pages g false q) (zero_changed g) h
    where
      sum : (tc' po tc pm ti' mi ti mj : ℕ) → tc' + po ≡ tc + pm → ti' + mi ≡ ti + mj → pm ≡ 0 → mj ≡ 0 → tc + ti ≤ pack_pages → (tc' + ti' ≤ pack_pages) × (tc' ≤ pack_pages)
      sum tc' po tc pm ti' mi ti mj a b d e h = (omega (arith, a, b, d, e, h), omega (arith, a, b, d, e, h))

  pub commits_room : Rooms s (commits f i s).view (commits f i s).written
  commits_room = record { view = λ h g. (counts g (i.file.group == g) refl (h g)).0; disk = λ h g. (counts g (i.file.group == g) refl (h g)).1 }

  acts_again : (stamp : Stamp) (o : Option Instance) (now : Store) → instance_of now i.inst ≡ o → Calm now (acts_committed f stamp o now).view (acts_committed f stamp o now).written
  acts_again stamp None now e = calm_same now now None refl refl
  acts_again stamp (Some j) now e = acts_calm f j op.Commit _ (counted j.work) now (found_at now i.inst j e) (omega arith)

  shuts_later : (a : CloseAnswer) (o : Option Instance) (now : Store) → instance_of now i.inst ≡ o → Calm now (shuts_again f a o now).view (shuts_again f a o now).written
  shuts_later a None now e = calm_same now now None refl refl
  shuts_later a (Some j) now e = shuts_calm f j a now (found_at now i.inst j e)

  owing_room : (b : Bool) → Rooms s (elim b as (λ (x : Bool). Outcome Store) [ true ↦ acts f i op.Commit (outcome.No refusal.Spent) (counted i.work) s | false ↦ and_then (commits f i s) (λ now. acts_committed f (next_stamp f (next_vector f i)) (instance_of now i.inst) now) ]).view
      (elim b as (λ (x : Bool). Outcome Store) [ true ↦ acts f i op.Commit (outcome.No refusal.Spent) (counted i.work) s | false ↦ and_then (commits f i s) (λ now. acts_committed f (next_stamp f (next_vector f i)) (instance_of now i.inst) now) ]).written
  owing_room true = calm_rooms s _ None (acts_calm f i op.Commit _ (counted i.work) s found (omega arith))
  owing_room false = rooms_then s (commits f i s).view _ (commits f i s).written None commits_room (calm_of (instance_of (commits f i s).view i.inst) refl)
    where
      calm_of : (o : Option Instance) → instance_of (commits f i s).view i.inst ≡ o → Calm (commits f i s).view (acts_committed f (next_stamp f (next_vector f i)) o (commits f i s).view).view None
      calm_of o e = (let k : Calm (commits f i s).view (acts_committed f (next_stamp f (next_vector f i)) o (commits f i s).view).view (acts_committed f (next_stamp f (next_vector f i)) o (commits f i s).view).written = acts_again (next_stamp f (next_vector f i)) o (commits f i s).view e in record { copies = k.copies; changed = k.changed; none = refl })

  last_calm : (o : Option Stamp) → Calm s (last_committed f i o s).view (last_committed f i o s).written
  last_calm None = calm_same s s None refl refl
  last_calm (Some stamp) = acts_calm f i op.Commit _ (counted i.work) s found (omega arith)

-- ---- operations ----

-- an effect that isn't refused needs no more pages than are free
needed_room : (free : ℕ) (changed : List ℕ) (e : Effect) → is_refusal (result_in free changed e) ≡ false → pages_needed e.pages changed ≤ free
needed_room free changed e h = over (is_refusal e.result) refl (nat_lt free (pages_needed e.pages changed)) refl h
  where
    within : nat_lt free (pages_needed e.pages changed) ≡ false → pages_needed e.pages changed ≤ free
    within q = grind (arith, nat_tests)

    over : (a : Bool) → is_refusal e.result ≡ a → (n : Bool) → nat_lt free (pages_needed e.pages changed) ≡ n → is_refusal (cond a e.result (cond n (outcome.No (refusal.NoSpace (pages_needed e.pages changed) free)) (cond e.spent (outcome.No refusal.Spent) e.result))) ≡ false → pages_needed e.pages changed ≤ free
    over true p n q h = absurd (true_false (sym p ∙ h))
    over false p true q h = absurd (true_false h)
    over false p false q h = within q

module _ (f : Frame) (s : Store) (i : Instance) (found : row instance_key (instance_key i) s.instances ≡ Some i) (o : Op) where
  -- an effect in the room that is free
  effect_room : (e : Effect) → ChangesPages i.work.content e → (r : Result) → r ≡ result_in (free_pages s i.file.group) i.work.changed e → Rooms s (acts f i o r (operated e r i.work) s).view None
  effect_room e made r is = over (is_refusal r) refl
    where
      after : List ℕ
      after = (carried_out e i.work).changed

      longer : is_refusal r ≡ false → length after ≤ length i.work.changed + free_pages s i.file.group
      longer q =
          let a : length after ≤ length i.work.changed + pages_needed e.pages i.work.changed = after_length (length e.content) i.work.changed e.pages made.below in
          let b : pages_needed e.pages i.work.changed ≤ free_pages s i.file.group = needed_room (free_pages s i.file.group) i.work.changed e (subst (λ (x : Result). is_refusal x ≡ false) is q) in
          omega (arith, a, b)

      next : Work → Instance
      next w = record i { work = w; answered = Some r }

      -- the group has room for the pages that an operation changes
      grows : is_refusal r ≡ false → RoomFits s → (g : ℕ) (b : Bool) → is_open_in g i ≡ b → total (copy_pages g) s.copies + total (changed_pages g) (with_latest instance_key (next (carried_out e i.work)) s.instances) ≤ pack_pages
      grows q h g b here =
          let k : total (changed_pages g) (with_latest instance_key (next (carried_out e i.work)) s.instances) + changed_pages g i ≡ total (changed_pages g) s.instances + changed_pages g (next (carried_out e i.work)) = exchanged s i (next (carried_out e i.work)) found refl g in
          by b here k (h g)
        where
          group_is : (x y : Bool) → x && y ≡ true → y ≡ true
          group_is true y k = k
          group_is false y k = absurd (true_false (sym k))

          same_group : is_open_in g i ≡ true → i.file.group ≡ g
          same_group p = equal i.file.group g (group_is (is_open i.stage) (i.file.group == g) p)

          closed : (tc ti' mi ti mj : ℕ) → ti' + mi ≡ ti + mj → mi ≡ 0 → mj ≡ 0 → tc + ti ≤ pack_pages → tc + ti' ≤ pack_pages
          closed tc ti' mi ti mj a b d e = omega (arith, a, b, d, e)

          opened : (tc ti' mi ti mj lc la free : ℕ) → ti' + mi ≡ ti + mj → mi ≡ lc → mj ≡ la → la ≤ lc + free → free ≡ pack_pages - (tc + ti) → tc + ti ≤ pack_pages → tc + ti' ≤ pack_pages
          opened tc ti' mi ti mj lc la free a b d e f g = omega (arith, a, b, d, e, f, g)

          free_is : i.file.group ≡ g → free_pages s i.file.group ≡ pack_pages - (total (copy_pages g) s.copies + total (changed_pages g) s.instances)
          free_is p = ap (λ (n : ℕ). pack_pages - (total (copy_pages n) s.copies + total (changed_pages n) s.instances)) p

          by : (b : Bool) → is_open_in g i ≡ b → total (changed_pages g) (with_latest instance_key (next (carried_out e i.work)) s.instances) + changed_pages g i ≡ total (changed_pages g) s.instances + changed_pages g (next (carried_out e i.work)) → total (copy_pages g) s.copies + total (changed_pages g) s.instances ≤ pack_pages → total (copy_pages g) s.copies + total (changed_pages g) (with_latest instance_key (next (carried_out e i.work)) s.instances) ≤ pack_pages
          by true p k m = opened (total (copy_pages g) s.copies) (total (changed_pages g) (with_latest instance_key (next (carried_out e i.work)) s.instances)) (changed_pages g i) (total (changed_pages g) s.instances) (changed_pages g (next (carried_out e i.work))) (length i.work.changed) (length after) (free_pages s i.file.group)
              k (ap (λ (x : Bool). cond x (length i.work.changed) 0) p) (ap (λ (x : Bool). cond x (length after) 0) p) (longer q) (free_is (same_group p)) m
          by false p k m = closed (total (copy_pages g) s.copies) (total (changed_pages g) (with_latest instance_key (next (carried_out e i.work)) s.instances)) (changed_pages g i) (total (changed_pages g) s.instances) (changed_pages g (next (carried_out e i.work)))
              k (ap (λ (x : Bool). cond x (length i.work.changed) 0) p) (ap (λ (x : Bool). cond x (length after) 0) p) m

      over : (b : Bool) → is_refusal r ≡ b → Rooms s (with_instance (next (cond b (counted i.work) (carried_out e i.work))) s) None
      over true q = calm_rooms s (with_instance (next (counted i.work)) s) None (calm_put s i (next (counted i.work)) found refl (λ g. fewer (is_open_in g i) (length i.work.changed) (length i.work.changed) (omega arith)))
      over false q = record { view = λ h g. grows q h g (is_open_in g i) refl; disk = λ h. tt }

  executes_room : (e : Option Effect) → ((x : Effect) → e ≡ Some x → ChangesPages i.work.content x) → Rooms s (executes_effect f i o e s).view (executes_effect f i o e s).written
  executes_room None made = calm_rooms s s None (calm_same s s None refl refl)
  executes_room (Some e) made = effect_room e (made e refl) (result_in (free_pages s i.file.group) i.work.changed e) refl

spent_so : (content : List ℕ) (spent : Bool) (o : Option Effect) → ((x : Effect) → o ≡ Some x → ChangesPages content x) → (e : Effect) → or_spent spent o ≡ Some e → ChangesPages content e
spent_so content spent None made e k = absurd (none k)
  where
    none : ◌≡◌ {A = Option Effect} None (Some e) → ⊥
    none k = cc
spent_so content spent (Some x) made e k = subst (ChangesPages content) (some_same (record x { spent = spent }) e k) (record { size = (made x refl).size; below = (made x refl).below; kept = (made x refl).kept })

-- what an operation does at the storage site names the pages that it changes
here_so : (o : Op) (seen : List ℕ) (m : Mending) (content : List ℕ) → length content ≤ file_bytes_max → (e : Effect) → effect_of o seen m content ≡ Some e → ChangesPages content e
here_so (op.Remove name ino) seen m content small e k = effect_so content small (Removes name ino seen) e k
here_so op.Mend seen m content small e k = spent_so content (rescue_is_spent ds m.kept) (effect (Mends (has_several m.contents) (dir_bytes (rescued ds m.kept))) content) (λ x p. effect_so content small (Mends (has_several m.contents) (dir_bytes (rescued ds m.kept))) x p) e k
  where
    ds : List Entry
    ds = joined_contents m.contents
here_so (op.Probe name) seen m content small e k = effect_so content small (As (op.Probe name)) e k
here_so (op.Find component) seen m content small e k = effect_so content small (As (op.Find component)) e k
here_so (op.Insert name ino kind) seen m content small e k = effect_so content small (As (op.Insert name ino kind)) e k
here_so (op.Rename component name) seen m content small e k = effect_so content small (As (op.Rename component name)) e k
here_so op.Empty seen m content small e k = effect_so content small (As op.Empty) e k
here_so (op.Read at len) seen m content small e k = effect_so content small (As (op.Read at len)) e k
here_so (op.Write at bytes) seen m content small e k = effect_so content small (As (op.Write at bytes)) e k
here_so (op.Cut len) seen m content small e k = effect_so content small (As (op.Cut len)) e k
here_so op.Commit seen m content small e k = effect_so content small (As op.Commit) e k
here_so op.Abort seen m content small e k = effect_so content small (As op.Abort) e k

abbrev RoomsOf : Store → Outcome Store → Type 0
RoomsOf s o = Rooms s o.view o.written

quiet_room : (s : Store) → Rooms s s None
quiet_room s = calm_rooms s s None (calm_same s s None refl refl)

module _ (f : Frame) (m : Mending) (s : Store) (good : Ascends copy_key s.copies) (i : Instance) (found : row instance_key (instance_key i) s.instances ≡ Some i) (runs : i.stage ≡ stage.Running) (here : FitsHere s i) where
  commit_room : (b : Bool) → RoomsOf s (elim b as (λ (x : Bool). Outcome Store) [ true ↦ commits_owing f i s | false ↦ last_committed f i i.work.last s ])
  commit_room true = owing_room f s good i found runs here (is_spent f i)
  commit_room false = calm_rooms s _ _ (last_calm f s good i found runs here i.work.last)

  abort_calm : Calm s (acts f i op.Abort outcome.Done (aborted i.mode (content_of (copy_of s i.file)) i.work) s).view None
  abort_calm = acts_calm f i op.Abort outcome.Done (aborted i.mode (content_of (copy_of s i.file)) i.work) s found (nothing (length i.work.changed))
    where
      nothing : (n : ℕ) → 0 ≤ n
      nothing n = omega arith

  effect_here : (o : Op) (seen : List ℕ) → RoomsOf s (executes_effect f i o (effect_of o seen m i.work.content) s)
  effect_here o seen = executes_room f s i found o (effect_of o seen m i.work.content) (here_so o seen m i.work.content here.fits.size)

  op_room : (o : Op) (seen : List ℕ) → RoomsOf s (executes f m i o seen s)
  op_room op.Commit seen = commit_room i.work.owes
  op_room op.Abort seen = calm_rooms s _ None abort_calm
  op_room (op.Remove name ino) seen = effect_here (op.Remove name ino) seen
  op_room op.Mend seen = effect_here op.Mend seen
  op_room (op.Probe name) seen = effect_here (op.Probe name) seen
  op_room (op.Find component) seen = effect_here (op.Find component) seen
  op_room (op.Insert name ino kind) seen = effect_here (op.Insert name ino kind) seen
  op_room (op.Rename component name) seen = effect_here (op.Rename component name) seen
  op_room op.Empty seen = effect_here op.Empty seen
  op_room (op.Read at len) seen = effect_here (op.Read at len) seen
  op_room (op.Write at bytes) seen = effect_here (op.Write at bytes) seen
  op_room (op.Cut len) seen = effect_here (op.Cut len) seen

  number_room : (n : ℕ) (o : Op) (seen : List ℕ) → RoomsOf s (by_number f m i n o seen s)
  number_room n o seen = over (n == i.work.ops) (n == i.work.ops + 1)
    where
      over : (a b : Bool) → RoomsOf s (elim a as (λ (x : Bool). Outcome Store) [ true ↦ sends (op_again f i n i.answered) s | false ↦ elim b as (λ (x : Bool). Outcome Store) [ true ↦ executes f m i o seen s | false ↦ quiet s ] ])
      over true b = quiet_room s
      over false true = op_room o seen
      over false false = quiet_room s

  close_room : (b : Bool) → RoomsOf s (elim b as (λ (x : Bool). Outcome Store) [ true ↦ closes_owing f i s | false ↦ shuts f i closing.Nothing s ])
  close_room false = calm_rooms s _ None (shuts_calm f i closing.Nothing s found)
  close_room true = owes (is_spent f i)
    where
      later : (o : Option Instance) → instance_of (commits f i s).view i.inst ≡ o → Calm (commits f i s).view (shuts_again f (closing.Made (next_stamp f (next_vector f i))) o (commits f i s).view).view (shuts_again f (closing.Made (next_stamp f (next_vector f i))) o (commits f i s).view).written
      later o e = shuts_later f s good i found runs here (closing.Made (next_stamp f (next_vector f i))) o (commits f i s).view e

      owes : (b : Bool) → RoomsOf s (elim b as (λ (x : Bool). Outcome Store) [ true ↦ shuts f i (closing.No refusal.Spent) s | false ↦ and_then (commits f i s) (λ now. shuts_again f (closing.Made (next_stamp f (next_vector f i))) (instance_of now i.inst) now) ])
      owes true = calm_rooms s _ None (shuts_calm f i (closing.No refusal.Spent) s found)
      owes false = rooms_then s (commits f i s).view _ (commits f i s).written _ (commits_room f s good i found runs here) (later (instance_of (commits f i s).view i.inst) refl)

-- ---- the store's handlers ----

at_stage : (f : Frame) (m : Mending) (s : Store) → StoreGood s → (inst : Serial) (i : Instance) → instance_of s inst ≡ Some i → (n : ℕ) (o : Op) (seen : List ℕ) (g : Stage) → i.stage ≡ g → RoomsOf s (on_op_at f m i g n o seen s)
at_stage f m s good inst i e n o seen stage.Running q = number_room f m s good.ascends i (found_at s inst i e) q (good.runs inst i e q) n o seen
at_stage f m s good inst i e n o seen (stage.Closing made a) q = quiet_room s
at_stage f m s good inst i e n o seen (stage.Closed a) q = quiet_room s

op_of_room : (f : Frame) (m : Mending) (s : Store) → StoreGood s → (inst : Serial) (n : ℕ) (o : Op) (seen : List ℕ) (x : Option Instance) → instance_of s inst ≡ x → RoomsOf s (on_op_of f m x n o seen s)
op_of_room f m s good inst n o seen None e = quiet_room s
op_of_room f m s good inst n o seen (Some i) e = at_stage f m s good inst i e n o seen i.stage refl

-- the form of an answer leaves what the store has
in_form_room : (s : Store) (x : Option Instance) (o : Outcome Store) → RoomsOf s o → RoomsOf s (in_form x o)
in_form_room s None o k = k
in_form_room s (Some i) o k = k

pub on_read_held_room : (f : Frame) (inst : Serial) (n at len : ℕ) (s : Store) → StoreGood s → RoomsOf s (on_read_held f inst n at len s)
on_read_held_room f inst n at len s good = in_form_room s (instance_of s inst) (on_op f nothing_to_mend inst n (op.Read at len) nothing_seen s) (op_of_room f nothing_to_mend s good inst n (op.Read at len) nothing_seen (instance_of s inst) refl)

pub on_op_room : (f : Frame) (m : Mending) (inst : Serial) (n : ℕ) (o : Op) (seen : List ℕ) (s : Store) → StoreGood s → RoomsOf s (on_op f m inst n o seen s)
on_op_room f m inst n o seen s good = op_of_room f m s good inst n o seen (instance_of s inst) refl

close_stage : (f : Frame) (s : Store) → StoreGood s → (inst : Serial) (i : Instance) → instance_of s inst ≡ Some i → (g : Stage) → i.stage ≡ g → RoomsOf s (on_close_at f i g s)
close_stage f s good inst i e stage.Running q = close_room f (record { contents = []; kept = [] }) s good.ascends i (found_at s inst i e) q (good.runs inst i e q) i.work.owes
close_stage f s good inst i e (stage.Closing made a) q = quiet_room s
close_stage f s good inst i e (stage.Closed a) q = quiet_room s

close_of_room : (f : Frame) (s : Store) → StoreGood s → (inst : Serial) (x : Option Instance) → instance_of s inst ≡ x → RoomsOf s (on_close_of f x s)
close_of_room f s good inst None e = quiet_room s
close_of_room f s good inst (Some i) e = close_stage f s good inst i e i.stage refl

pub on_close_room : (f : Frame) (inst : Serial) (s : Store) → StoreGood s → RoomsOf s (on_close f inst s)
on_close_room f inst s good = close_of_room f s good inst (instance_of s inst) refl

ends_calm : (f : Frame) (s : Store) (i : Instance) → row instance_key (instance_key i) s.instances ≡ Some i → (g : Stage) → Calm s (ends_at f i g s).view (ends_at f i g s).written
ends_calm f s i found stage.Running = calm_same s s None refl refl
ends_calm f s i found (stage.Closed a) = calm_same s s None refl refl
ends_calm f s i found (stage.Closing made a) = calm_put s i (record i { stage = stage.Closed a }) found refl (λ g. nothing (changed_pages g i))
  where
    nothing : (n : ℕ) → 0 ≤ n
    nothing n = omega arith

closed_of_calm : (f : Frame) (s : Store) (inst : Serial) (x : Option Instance) → instance_of s inst ≡ x → Calm s (on_closed_ok_of f x s).view (on_closed_ok_of f x s).written
closed_of_calm f s inst None e = calm_same s s None refl refl
closed_of_calm f s inst (Some i) e = ends_calm f s i (found_at s inst i e) i.stage

pub on_closed_ok_calm : (f : Frame) (inst : Serial) (s : Store) → Calm s (on_closed_ok f inst s).view (on_closed_ok f inst s).written
on_closed_ok_calm f inst s = closed_of_calm f s inst (instance_of s inst) refl

-- ---- opens ----

begun_calm : (s : Store) (j : Instance) → row instance_key (instance_key j) s.instances ≡ None → length j.work.changed ≡ 0 → Calm s (with_instance j s) None
begun_calm s j none empty = record { copies = refl; changed = λ g. more g; none = refl }
  where
    zero_is : (b : Bool) (n : ℕ) → n ≡ 0 → cond b n 0 ≡ 0
    zero_is true n e = e
    zero_is false n e = refl

    sum : (a b x y : ℕ) → a + x ≡ b + y → y ≡ 0 → a ≤ b
    sum a b x y e k = omega (arith, e, k)

    more : (g : ℕ) → total (changed_pages g) (with_latest instance_key j s.instances) ≤ total (changed_pages g) s.instances
    more g = sum (total (changed_pages g) (with_latest instance_key j s.instances)) (total (changed_pages g) s.instances) (measured (changed_pages g) (row instance_key (instance_key j) s.instances)) (changed_pages g j) (latest_total (changed_pages g) instance_key j s.instances) (zero_is (is_open_in g j) (length j.work.changed) empty)

made_calm : (f : Frame) (r : StoreRequest) (o : Option ℕ) (s : Store) → instance_of s r.inst ≡ None → Calm s (opens_made f r o s).view (opens_made f r o s).written
made_calm f r None s none = calm_same s s None refl refl
made_calm f r (Some ino) s none = begun_calm s (begun_instance r (record { group = r.file.group; ino = ino }) None) none refl

opens_calm : (f : Frame) (r : StoreRequest) (m : Mode) (s : Store) → instance_of s r.inst ≡ None → Calm s (opens f r m s).view (opens f r m s).written
opens_calm f r mode.Make s none = made_calm f r (own_ino s r.file.group f.me) s none
opens_calm f r mode.Read s none = begun_calm s (begun_instance r r.file (copy_of s r.file)) none refl
opens_calm f r mode.Write s none = begun_calm s (begun_instance r r.file (copy_of s r.file)) none refl
opens_calm f r mode.Resolve s none = begun_calm s (begun_instance r r.file (copy_of s r.file)) none refl
opens_calm f r mode.Mend s none = begun_calm s (begun_instance r r.file (copy_of s r.file)) none refl

open_of_calm : (f : Frame) (r : StoreRequest) (x : Option Instance) (s : Store) → instance_of s r.inst ≡ x → Calm s (on_open_ss_of f r x s).view (on_open_ss_of f r x s).written
open_of_calm f r None s e = opens_calm f r r.mode s e
open_of_calm f r (Some i) s e = calm_same s s None refl refl

pub on_open_ss_calm : (f : Frame) (r : StoreRequest) (s : Store) → Calm s (on_open_ss f r s).view (on_open_ss f r s).written
on_open_ss_calm f r s = open_of_calm f r (instance_of s r.inst) s refl
