-- Input gathered block by block: each block lies behind what was gathered before.
use Rattle.std.proofs.Common.{◌≡◌, ℕ, ◌+◌, ◌-◌, ◌<◌, ◌≤◌, Bool, true, false, List, [], ◌++◌, length, take, sym, refl, ap, ◌∙◌, zero-add, arith, length-append, length-take-le}
use Rattle.io.specs.Counts.{IsPrefixLen}
use Rattle.digits.specs.Stores.{stored}
use Rattle.digits.proofs.StoreLaws.{stored_nil, length_stored, then}
use Rattle.listing.specs.Gather.{Gathers, Lent, input_answer}
use Rattle.listing.specs.Internal.{Puts, Appends, Within}
use Rattle.std.specs.declared.option.Option.{Option}
use Rattle.std.specs.declared.option.Option.TheVariants.{Some, None}

-- a block that keeps its length
pub lent : {block after : List ℕ} → length after ≡ length block → Lent block after
lent {block} {after} e = record { held = after; leaves = refl; same_length = e }

-- a read gives no more bytes than the block holds
pub read_within : {r : Option ℕ} {n : ℕ} (block : List ℕ) → Within r block → r ≡ Some n → n ≤ length block
read_within block w e = rw e at w

-- -- The loop

-- size bytes are gathered
pub record Gathered (buffer : List ℕ) (size : ℕ) (after : List ℕ) : Type 0 where
  pub input : List ℕ
  pub counted : size ≡ length input
  pub fits : length input ≤ length buffer
  pub leaves : after ≡ stored buffer 0 input

-- nothing yet
pub gathered_none : (buffer : List ℕ) → Gathered buffer 0 buffer
gathered_none buffer = record { input = []; counted = refl; fits = omega arith; leaves = sym (stored_nil buffer 0) }

-- one more block
pub gathered_more : {buffer l l' block : List ℕ} {size size' : ℕ} → Gathered buffer size l → Puts block l size size' l'
    → size' ≤ length buffer → Gathered buffer size' l'
gathered_more {buffer} {l} {l'} {block} {size} {size'} g p h = record {
  input = g.input ++ block;
  counted = omega (arith, length-append g.input block, g.counted, p.ends);
  fits = omega (arith, length-append g.input block, g.counted, p.ends);
  leaves =
      then buffer l l' 0 (length g.input) g.input block g.leaves refl
      (rw (zero-add (length g.input)) (rw g.counted at p.leaves));
}

-- as many bytes as there is room for go behind those gathered
pub appends : {buffer block after : List ℕ} {size got n end : ℕ} → Puts (take n block) buffer size end after → n ≤ length block → n ≤ got
    → n ≤ length buffer - size → size ≤ length buffer → (0 < got → 0 < length buffer - size → 0 < n)
    → Appends buffer size block got end after
appends {buffer} {block} {after} {size} {got} {n} {end} p l g r s f =
    let e : end ≡ size + n = p.ends ∙ ap (λ (k : ℕ). size + k) (length-take-le n block l) in
    let m : n ≡ end - size = omega arith in
    record { puts = rw m at p; within = omega arith; taken = omega arith; grows = λ h k. let x = f h (omega arith) in omega arith }

-- -- The answers

module _ {block block' buffer after : List ℕ} {size : ℕ} (g : Gathered buffer size after) (e : length block' ≡ length block) where
  -- the input ends, or the buffer is full
  pub gathers_all : 0 < length block → Gathers block buffer (Some size) block' after
  gathers_all h = record {
    input = g.input;
    readable = true;
    answers = ap Some g.counted;
    fits = g.fits;
    leaves = g.leaves;
    blocked = λ _. h;
    lent = lent e;
  }

  -- a read failed
  pub gathers_failed : Gathers block buffer None block' after
  gathers_failed = record {
    input = g.input;
    readable = false;
    answers = refl;
    fits = g.fits;
    leaves = g.leaves;
    blocked = λ x. absurd (distinct x);
    lent = lent e;
  }
    where
      distinct : false ≡ true → ⊥
      distinct x = let z : ◌≡◌ {A = ℕ} 0 1 = cc in omega arith

-- the bytes read are bytes of the buffer
pub read_counts : {block block' buffer after : List ℕ} {r : Option ℕ} {size : ℕ} → Gathers block buffer r block' after
    → r ≡ Some size → IsPrefixLen size after
read_counts {block} {block'} {buffer} {after} {r} {size} g h =
    let n : length after ≡ length buffer = ap length g.leaves ∙ length_stored buffer 0 g.input in
    let m : size ≡ length g.input = counted g.readable (sym h ∙ g.answers) in
    let k : size ≤ length after = omega (arith, g.fits) in
    (k, sym (length-take-le size after k))
  where
    counted : (t : Bool) → Some size ≡ input_answer t g.input → size ≡ length g.input
    counted true e = cc
    counted false e = let z : ◌≡◌ {A = ℕ} 0 1 = cc in absurd (omega arith)
