-- An input whose bytes are known, gathered block by block: what lies in the buffer is what the input begins with.
use Rattle.std.proofs.Common.{◌≡◌, ℕ, ◌+◌, ◌-◌, ◌<◌, ◌≤◌, List, ◌++◌, length, take, drop, IfSome, Some, None, sym, refl, ap, ◌∙◌, subst, append_assoc, arith, length-append, take-append-drop, length-take-le, take-take, take_at}
use Rattle.std.specs.declared.option.Option.{Option}
use Rattle.std.specs.Io.KnownBytes.{Consumes}
use Rattle.std.proofs.KnownBytes.{Consumes-trans}
use Rattle.digits.specs.Stores.{stored}
use Rattle.digits.proofs.StoreLaws.{stored_parts}
use Rattle.listing.specs.Gather.{Gathers}
use Rattle.listing.specs.Internal.{Puts}
use Rattle.std.specs.declared.option.Option.TheVariants.{None}
use Rattle.listing.proofs.GatherLaws.{gathered_none, gathers_failed}

-- no read can succeed with an empty block: nothing is read
pub gathers_none : (block buffer : List ℕ) → Gathers block buffer None block buffer
gathers_none block buffer = gathers_failed (gathered_none buffer) refl

-- bytes stored behind the first size bytes of a buffer come behind them
pub joined : (l l' bs : List ℕ) (size end : ℕ) → l' ≡ stored l size bs → end ≡ size + length bs → end ≤ length l
    → take end l' ≡ take size l ++ bs
joined l l' bs size end e n h =
    let s : l' ≡ (take size l ++ bs) ++ drop (size + length bs) l =
    e ∙ stored_parts l size bs (omega arith) in
    let k : length (take size l ++ bs) ≡ end = omega (arith, length-append (take size l) bs, length-take-le size l (omega arith)) in
    ap (take end) s ∙ take_at (take size l ++ bs) (drop (size + length bs) l) end k

-- bytes that were read are those that the input begins with, also where the last of them are let go
pub begins_with : (old new : Option (List ℕ)) (front bs : List ℕ) (n end : ℕ) → Consumes old new (front ++ bs) → n ≤ length bs
    → end ≡ length front + n → IfSome old (λ xs. front ++ take n bs ≡ take end xs)
begins_with None new front bs n end c h e = tt
begins_with (Some xs) None front bs n end c h e = absurd c
begins_with (Some xs) (Some zs) front bs n end c h e =
    let part : bs ≡ take n bs ++ drop n bs = sym (take-append-drop n bs) in
    let s : xs ≡ (front ++ take n bs) ++ (drop n bs ++ zs) = c ∙ ap (λ (k : List ℕ). (front ++ k) ++ zs) part ∙ simp append_assoc in
    let k : length (front ++ take n bs) ≡ end = omega (arith, length-append front (take n bs), length-take-le n bs h) in
    sym (ap (take end) s ∙ take_at (front ++ take n bs) (drop n bs ++ zs) end k)

-- -- The loop

-- size bytes are gathered: those that the input begins with, and all that was read while there is room
pub record Front (old now : Option (List ℕ)) (size : ℕ) (buffer : List ℕ) : Type 0 where
  pub begins : IfSome old (λ xs. take size buffer ≡ take size xs)
  pub read : size < length buffer → Consumes old now (take size buffer)

-- nothing yet
pub front_none : (known : Option (List ℕ)) (buffer : List ℕ) → Front known known 0 buffer
front_none None buffer = record { begins = tt; read = λ _. tt }
front_none (Some xs) buffer = record { begins = refl; read = λ _. refl }

-- one more block: all of it, or as much as there is room for
pub front_more : (old now new : Option (List ℕ)) (l l' block : List ℕ) (size got end : ℕ) → size < length l → Front old now size l
    → Consumes now new (take got block) → got ≤ length block → Puts (take (end - size) block) l size end l' → size ≤ end
    → end ≤ length l → end - size ≤ got → length l' ≡ length l → (end < length l → end ≡ size + got) → Front old new end l'
front_more old now new l l' block size got end room f taken fits p grows within most same whole =
    let n : ℕ = end - size in
    let j : take end l' ≡ take size l ++ take n block = joined l l' (take n block) size end p.leaves p.ends within in
    let t : take n (take got block) ≡ take n block = take-take n got block most in
    let c = Consumes-trans old now new (take size l) (take got block) (f.read room) taken in
    let b = begins_with old new (take size l) (take got block) n end c
    (omega (arith, length-take-le got block fits)) (omega (arith, length-take-le size l (omega arith))) in
    let e : take size l ++ take n (take got block) ≡ take end l' = ap (λ (k : List ℕ). take size l ++ k) t ∙ sym j in
    record {
      begins = subst (λ (k : List ℕ). IfSome old (λ xs. k ≡ take end xs)) e b;
      read = λ lt.
          let g : n ≡ got = let w = whole (omega arith) in omega arith in
          subst (Consumes old new) (ap (λ (k : ℕ). take size l ++ take k block) (sym g) ∙ sym j) c;
    }
