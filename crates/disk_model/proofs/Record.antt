-- How the moments of a disk that keeps each call go on.
use Rattle.std.proofs.Common.{◌≡◌, inl, inr, ⊎_elim, ℕ, ◌+◌, ◌≤◌, ◌<◌, List, [], ◌∷◌, ◌++◌, length, take, drop, get_or, refl, sym, ◌∙◌, ap, subst, arith, length-append, length-take, length-drop}
use Rattle.std.proofs.lemmas.Bool.{cases_lt}
use Rattle.std.proofs.lemmas.List.{take_all, take_more, drop_at, take-append-le, drop-append-le, get_or-take, append-nil}
use Rattle.std.proofs.lemmas.List.Elements.{All-head, All-tail, All-nil, All-cons, All-append}
use Rattle.std.specs.List.{All}
use Rattle.disk_model.specs.declared.store.Span.{Span}
use Rattle.disk_model.specs.declared.record_disk.Call.{Call}
use Rattle.disk_model.specs.declared.record_disk.Call.TheVariants.{Wrote, Synced}
use Rattle.disk_model.specs.declared.record_disk.RecordDisk.{RecordDisk}
use Rattle.disk_model.specs.Images.{overwritten, bytes_at, Torn, Same, IsImage}
use Rattle.disk_model.specs.Disk.{IsAfter, Goes}
use Rattle.disk_model.specs.RecordDisk.{State, after_call, played, blank, state_after, image_of, pool_end, StandInPool}
use Rattle.disk_model.specs.RecordImages.{seen, calls_kept, moment, state_at, images, Remembers}
use Rattle.disk_model.proofs.Images.{image_after_write, torn_overwritten}

played-append : (pool : List ℕ) (m : State) (xs ys : List Call) → played pool m (xs ++ ys) ≡ played pool (played pool m xs) ys
played-append pool m [] ys = refl
played-append pool m (x ∷ xs) ys = played-append pool (after_call pool m x) xs ys

bytes_at_front : (pool more : List ℕ) (from n : ℕ) → from + n ≤ length pool → bytes_at (pool ++ more) from n ≡ bytes_at pool from n
bytes_at_front pool more from n le =
    ap (λ (l : List ℕ). take n l) (drop-append-le from pool more (omega arith))
    ∙ take-append-le n (drop from pool) more (omega (arith, length-drop from pool))

after_call_pool : (pool more : List ℕ) (m : State) (call : Call) → pool_end call ≤ length pool → after_call (pool ++ more) m call ≡ after_call pool m call
after_call_pool pool more m (Wrote span from) le = ap (λ (l : List ℕ). record { read = overwritten m.read span.at l; waiting = m.waiting ++ span ∷ [] }) (bytes_at_front pool more from span.len le)
after_call_pool pool more m Synced le = refl

-- a longer pool changes no earlier moment
played_pool : (pool more : List ℕ) (m : State) (calls : List Call) → StandInPool pool calls → played (pool ++ more) m calls ≡ played pool m calls
played_pool pool more m [] stand = refl
played_pool pool more m (call ∷ calls) stand =
    ap (λ (x : State). played (pool ++ more) x calls) (after_call_pool pool more m call (All-head (λ (c : Call). pool_end c ≤ length pool) call calls stand))
    ∙ played_pool pool more (after_call pool m call) calls (All-tail (λ (c : Call). pool_end c ≤ length pool) call calls stand)

stand_front : (pool : List ℕ) (calls : List Call) (k : ℕ) → StandInPool pool calls → StandInPool pool (take k calls)
stand_front pool calls k stand = λ i d lt.
    let below : i < k = omega (arith, length-take k calls) in
    subst (λ (c : Call). pool_end c ≤ length pool) (sym (get_or-take k calls i d below)) (stand i d (omega (arith, length-take k calls)))

-- the disk's length, the pool and the calls, before a call and after it
module _ (len : ℕ) (pool more : List ℕ) (calls : List Call) (call : Call) (stand : StandInPool pool calls) where
  kept : (k : ℕ) → k ≤ length calls → state_after len (pool ++ more) (calls ++ call ∷ []) k ≡ state_after len pool calls k
  kept k le =
      ap (λ (l : List Call). played (pool ++ more) (blank len) l) (take-append-le k calls (call ∷ []) le)
      ∙ played_pool pool more (blank len) (take k calls) (stand_front pool calls k stand)

  newest : (k : ℕ) → k ≡ length calls + 1 → state_after len (pool ++ more) (calls ++ call ∷ []) k ≡ after_call (pool ++ more) (state_after len pool calls (length calls)) call
  newest k is =
      ap (λ (l : List Call). played (pool ++ more) (blank len) l) (take_all k (calls ++ call ∷ []) (omega (arith, length-append calls (call ∷ []))))
      ∙ played-append (pool ++ more) (blank len) calls (call ∷ [])
      ∙ ap (λ (m : State). after_call (pool ++ more) m call)
      (played_pool pool more (blank len) calls stand ∙ ap (λ (l : List Call). played pool (blank len) l) (sym (take_all (length calls) calls (omega arith))))

-- that after a call the new moment is the one made of the old by it
pub newest_is : (len len' : ℕ) (pool pool' more : List ℕ) (calls calls' : List Call) (call : Call) → StandInPool pool calls → len' ≡ len → pool' ≡ pool ++ more → calls' ≡ calls ++ call ∷ [] → state_after len' pool' calls' (length calls') ≡ after_call pool' (state_after len pool calls (length calls)) call
newest_is len len' pool pool' more calls calls' call stand same pool_is calls_is =
    let long : length calls' ≡ length calls + 1 = omega (arith, ap length calls_is, length-append calls (call ∷ [])) in
    ap (λ (n : ℕ). state_after n pool' calls' (length calls')) same
    ∙ ap (λ (l : List Call). state_after len pool' l (length calls')) calls_is
    ∙ ap (λ (l : List ℕ). state_after len l (calls ++ call ∷ []) (length calls')) pool_is
    ∙ newest len pool more calls call stand (length calls') long
    ∙ ap (λ (l : List ℕ). after_call l (state_after len pool calls (length calls)) call) (sym pool_is)

module _ (old new : RecordDisk) (call : Call) (more : List ℕ) (same : length (seen new) ≡ length (seen old)) (pool_is : new.pool.items ≡ old.pool.items ++ more) (calls_is : new.calls.items ≡ old.calls.items ++ call ∷ []) where
  one_more : calls_kept new ≡ calls_kept old + 1
  one_more = omega (arith, ap length calls_is, length-append old.calls.items (call ∷ []))

  kept_at : (k : ℕ) → k ≤ calls_kept old → state_at new k ≡ state_at old k
  kept_at k le =
      ap (λ (n : ℕ). state_after n new.pool.items new.calls.items k) same
      ∙ ap (λ (l : List Call). state_after (length (seen old)) new.pool.items l k) calls_is
      ∙ ap (λ (l : List ℕ). state_after (length (seen old)) l (old.calls.items ++ call ∷ []) k) pool_is
      ∙ kept (length (seen old)) old.pool.items more old.calls.items call old.in_pool k le

  newest_at : state_at new (calls_kept new) ≡ after_call new.pool.items (state_at old (calls_kept old)) call
  newest_at = newest_is (length (seen old)) (length (seen new)) old.pool.items new.pool.items more old.calls.items new.calls.items call old.in_pool same pool_is calls_is

  pub remembers : Remembers old new
  remembers = λ t image was. (was.0, was.1, omega (arith, was.2, one_more), subst (λ (m : State). image_of m image) (sym (kept_at was.0 was.2)) was.3)

  pub goes : (step : List ℕ → List ℕ → Type 0) → ((image : List ℕ) → images new image → IsAfter step (images old) image) → Goes step (moment old) (moment new)
  goes step now = record {
    later = omega (arith, one_more);
    images = now;
    since = λ t image le left. ⊎_elim
        (λ (below : left.0 < calls_kept new). let le' : left.0 ≤ calls_kept old = omega (arith, one_more) in inl (left.0, left.1, le', subst (λ (m : State). image_of m image) (kept_at left.0 le') left.3))
        (λ (above : calls_kept new ≤ left.0). let is : left.0 ≡ calls_kept new = omega (arith, left.2) in inr (now image (subst (λ (k : ℕ). image_of (state_at new k) image) is left.3)))
        (cases_lt left.0 (calls_kept new));
  }

-- after a sync
pub sync_images : (old new : RecordDisk) → length (seen new) ≡ length (seen old) → new.pool.items ≡ old.pool.items → new.calls.items ≡ old.calls.items ++ Synced ∷ [] → (image : List ℕ) → images new image → IsImage [] (seen old) image
sync_images old new same pool_is calls_is image is =
    let now = newest_at old new Synced [] same (pool_is ∙ sym (append-nil old.pool.items)) calls_is in
    subst (λ (l : List ℕ). IsImage [] l image) old.replayed (subst (λ (m : State). image_of m image) now is)

pub sync_step : (old new : RecordDisk) → length (seen new) ≡ length (seen old) → new.pool.items ≡ old.pool.items → new.calls.items ≡ old.calls.items ++ Synced ∷ [] → (image : List ℕ) → images new image → IsAfter Same (images old) image
sync_step old new same pool_is calls_is image is =
    let now = newest_at old new Synced [] same (pool_is ∙ sym (append-nil old.pool.items)) calls_is in
    let synced : IsImage [] (state_at old (calls_kept old)).read image = subst (λ (m : State). image_of m image) now is in
    (image, record { long = synced.long; outside = λ k none. synced.outside k refl }, refl)

bytes_in : (pool bytes : List ℕ) → bytes_at (pool ++ bytes) (length pool) (length bytes) ≡ bytes
bytes_in pool bytes = ap (λ (l : List ℕ). take (length bytes) l) (drop_at pool bytes (length pool) refl) ∙ take_all (length bytes) bytes (omega arith)

-- after a write
module _ (old new : RecordDisk) (at : ℕ) (bytes : List ℕ) (fits : at + length bytes ≤ length (seen old)) (same : length (seen new) ≡ length (seen old)) (pool_is : new.pool.items ≡ old.pool.items ++ bytes) (calls_is : new.calls.items ≡ old.calls.items ++ Wrote (record { at = at; len = length bytes }) (length old.pool.items) ∷ []) where
  abbrev call : Call
  call = Wrote (record { at = at; len = length bytes }) (length old.pool.items)

  abbrev before : State
  before = state_at old (calls_kept old)

  pub write_step : (image : List ℕ) → images new image → IsAfter (Torn at (length bytes)) (images old) image
  write_step image is =
      let now = newest_at old new call bytes same pool_is calls_is in
      let here = subst (λ (m : State). image_of m image) now is in
      let put : bytes_at new.pool.items (length old.pool.items) (length bytes) ≡ bytes = ap (λ (l : List ℕ). bytes_at l (length old.pool.items) (length bytes)) pool_is ∙ bytes_in old.pool.items bytes in
      let long : length before.read ≡ length (seen old) = ap length old.replayed in
      let le : at + length bytes ≤ length before.read = omega (arith, fits, long) in
      image_after_write before.waiting before.waiting (λ k none. none) at (length bytes) before.read (overwritten before.read at bytes) le (torn_overwritten before.read at bytes le)
      image (subst (λ (l : List ℕ). IsImage (before.waiting ++ record { at = at; len = length bytes } ∷ []) (overwritten before.read at l) image) put here)

-- what a read gives after a write is what the kept calls give
pub replayed_write : (len : ℕ) (pool pool' bytes read read' : List ℕ) (calls calls' : List Call) (at : ℕ) → length read' ≡ length read → StandInPool pool calls → (state_after (length read) pool calls (length calls)).read ≡ read
    → pool' ≡ pool ++ bytes → calls' ≡ calls ++ Wrote (record { at = at; len = length bytes }) (length pool) ∷ [] → read' ≡ overwritten read at bytes → (state_after (length read') pool' calls' (length calls')).read ≡ read'
replayed_write len pool pool' bytes read read' calls calls' at same stand replayed pool_is calls_is read_is =
    ap (λ (m : State). m.read) (newest_is (length read) (length read') pool pool' bytes calls calls' (Wrote (record { at = at; len = length bytes }) (length pool)) stand same pool_is calls_is)
    ∙ ap (λ (l : List ℕ). overwritten (state_after (length read) pool calls (length calls)).read at l) (ap (λ (l : List ℕ). bytes_at l (length pool) (length bytes)) pool_is ∙ bytes_in pool bytes)
    ∙ ap (λ (l : List ℕ). overwritten l at bytes) replayed
    ∙ sym read_is

pub replayed_sync : (pool read : List ℕ) (calls calls' : List Call) → StandInPool pool calls → (state_after (length read) pool calls (length calls)).read ≡ read → calls' ≡ calls ++ Synced ∷ [] → (state_after (length read) pool calls' (length calls')).read ≡ read
replayed_sync pool read calls calls' stand replayed calls_is =
    ap (λ (m : State). m.read) (newest_is (length read) (length read) pool pool [] calls calls' Synced stand refl (sym (append-nil pool)) calls_is) ∙ replayed

pub stand_push : (P Q : Call → Type 0) (calls calls' : List Call) (call : Call) → ((c : Call) → P c → Q c) → All P calls → Q call → calls' ≡ calls ++ call ∷ [] → All Q calls'
stand_push P Q calls calls' call wider all one calls_is = subst (λ (l : List Call). All Q l) (sym calls_is) (All-append Q calls (call ∷ []) (λ i d lt. wider (get_or calls i d) (all i d lt)) (All-cons Q call [] one (All-nil Q)))

-- one call more is played
pub played_more : (pool : List ℕ) (m : State) (calls : List Call) (i : ℕ) (d : Call) → i < length calls → played pool m (take (i + 1) calls) ≡ after_call pool (played pool m (take i calls)) (get_or calls i d)
played_more pool m calls i d lt = ap (λ (l : List Call). played pool m l) (take_more calls i d lt) ∙ played-append pool m (take i calls) (get_or calls i d ∷ [])

-- and the disk reads as after it
pub replay_more : (pool pool' : List ℕ) (m : State) (calls kept : List Call) (n i : ℕ) (d : Call) (read new : List ℕ) → i < n → i < length calls → kept ≡ calls → pool' ≡ pool → (played pool m (take i calls)).read ≡ read
    → ((waiting : List Span) → (after_call pool' (record { read = read; waiting = waiting }) (get_or (take n kept) i d)).read ≡ new) → (played pool m (take (i + 1) calls)).read ≡ new
replay_more pool pool' m calls kept n i d read new below lt same same_pool so_far more =
    ap (λ (m' : State). m'.read) (played_more pool m calls i d lt)
    ∙ ap (λ (call : Call). (after_call pool (played pool m (take i calls)) call).read) (ap (λ (l : List Call). get_or l i d) (sym same) ∙ sym (get_or-take n kept i d below))
    ∙ ap (λ (l : List ℕ). (after_call l (played pool m (take i calls)) (get_or (take n kept) i d)).read) (sym same_pool)
    ∙ ap (λ (l : List ℕ). (after_call pool' (record { read = l; waiting = (played pool m (take i calls)).waiting }) (get_or (take n kept) i d)).read) so_far
    ∙ more (played pool m (take i calls)).waiting
