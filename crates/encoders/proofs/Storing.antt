-- What the output keeps of bytes: all of them where it has room, else as much as fits.
use Rattle.std.proofs.Common.{subst, ℕ, ◌+◌, ◌-◌, ◌≤◌, ◌≡◌, refl, sym, ◌∙◌, ap, ap₂, List, [], ◌∷◌, ◌++◌, length, take, drop, set, arith}
use lib.ListN.{length-set, length-append, length-take, length-drop, take-append-drop}
use Rattle.std.proofs.lemmas.List.{length-take-le}
use Rattle.encoders.proofs.Taking.{as_bytes, both}
use borrow.Author.Tests.{lt-ltb, le-ltb}
use borrow.Rule.Slice.PartMut.{put_mid}
use Rattle.layout.specs.Writing.{over}
use Rattle.encoders.specs.declared.store.Store.{Store}
use Rattle.encoders.specs.Puts.{Room, Puts}
use Rattle.encoders.specs.Sinks.{along, Took}
use Rattle.encoders.specs.Stores.{stored}
use Rattle.encoders.proofs.Putting.{put_byte, put_both}

abbrev pub with_out : Store → List ℕ → ℕ → Store
with_out s out at = record s { out = record s.out { now = out }; at = at }

put_of : (bytes out : List ℕ) (k : ℕ) → Puts bytes out k (take k out ++ over bytes (drop k out)) (k + length bytes)
put_of bytes out k = record { next = refl; same = refl }

pub stored_all : (bytes : List ℕ) (s : Store) → Room bytes s.out.now s.at → along stored bytes s ≡ with_out s (take s.at s.out.now ++ over bytes (drop s.at s.out.now)) (s.at + length bytes)
unfolding along over
stored_all [] s h = ap₂ (with_out s) (sym (take-append-drop s.at s.out.now)) (omega arith)
stored_all (b ∷ bytes) s h =
    let out : List ℕ = set s.out.now s.at b in
    let k : ℕ = s.at + 1 in
    let first : stored s b ≡ with_out s out k = rw (lt-ltb s.at (length s.out.now) (omega (arith, h.room))) in
    let room : Room bytes out k = record { room = omega (arith, h.room, length-set s.out.now s.at b) } in
    let p = put_both (b ∷ []) bytes h (put_byte b s.out.now s.at (record { room = omega (arith, h.room) })) (put_of bytes out k) in
    ap (along stored bytes) first ∙ stored_all bytes (with_out s out k) room ∙ ap₂ (with_out s) p.same p.next

module _ {bytes : List ℕ} {s t : Store} (h : Room bytes s.out.now s.at) (p : Took stored bytes s t) where
  -- a slice that has room, the bytes put into it
  pub puts : Puts bytes s.out.now s.at t.out.now t.at
  puts = let e = p.took ∙ stored_all bytes s h in record { next = ap (λ (t : Store). t.at) e; same = ap (λ (t : Store). t.out.now) e }

  -- it is lent on, and nothing else
  pub same_output : s.out.ghost_name ≡ t.out.ghost_name
  same_output = sym (ap (λ (t : Store). t.out.ghost_name) (p.took ∙ stored_all bytes s h))

-- a part copied in one piece
pub stored_part : (bytes part : List ℕ) (end : ℕ) (s : Store) → part ≡ bytes → end ≡ s.at + length bytes → end ≤ length s.out.now → Took stored bytes s (with_out s (put_mid s.at (end - s.at) s.out.now part) end)
unfolding over
stored_part bytes part end s e ends room =
    let long : end - s.at ≡ length bytes = omega arith in
    let same = ap₂ (λ (l : List ℕ) (k : ℕ). take s.at s.out.now ++ (l ++ drop k (drop s.at s.out.now))) e long in
    record { took = ap₂ (with_out s) same ends ∙ sym (stored_all bytes s (record { room = omega arith })) }

-- behind the end nothing is stored
pub stored_none : (bytes : List ℕ) (s : Store) → length s.out.now ≤ s.at → along stored bytes s ≡ s
unfolding along
stored_none [] s h = refl
stored_none (b ∷ bytes) s h =
    let first : stored s b ≡ s = rw (le-ltb s.at (length s.out.now) h) in
    ap (along stored bytes) first ∙ stored_none bytes s h

length_mid : (at k : ℕ) (out part : List ℕ) → at + k ≤ length out → length part ≡ k → length (put_mid at k out part) ≡ length out
length_mid at k out part h long =
    length-append (take at out) (part ++ drop k (drop at out))
    ∙ omega (arith, h, long, length-take at out, length-append part (drop k (drop at out)), length-drop k (drop at out), length-drop at out)

-- as much as fits
pub stored_front : (bytes part : List ℕ) (n : ℕ) (s : Store) → part ≡ take n bytes → n ≤ length bytes → n ≡ length s.out.now - s.at → s.at ≤ length s.out.now → Took stored bytes s (with_out s (put_mid s.at (length s.out.now - s.at) s.out.now part) (s.at + n))
stored_front bytes part n s e fits ends inside =
    let end = s.at + n in
    let long = length-take-le n bytes fits in
    let first = stored_part (take n bytes) part end s e (omega (arith, long)) (omega arith) in
    let t = with_out s (put_mid s.at (end - s.at) s.out.now part) end in
    let same = length_mid s.at (end - s.at) s.out.now part (omega arith) (ap length e ∙ omega (arith, long)) in
    let rest : Took stored (drop n bytes) t t = record { took = sym (stored_none (drop n bytes) t (omega (arith, same))) } in
    subst (λ (k : ℕ). Took stored bytes s (with_out s (put_mid s.at k s.out.now part) end)) (omega arith) (as_bytes (sym (take-append-drop n bytes)) (both first rest))
