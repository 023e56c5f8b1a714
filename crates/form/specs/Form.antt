-- A wire's frames as a value of one small grammar type, and the one judgement of bytes by it (paper 01, "Judging a place").
use Rattle.std.specs.Prelude.{Bool, true, cond, ◌≡◌, List, [], ◌∷◌, ◌++◌, ℕ, ◌+◌, ◌^◌, ◌<◌, ◌≤◌, length, take, drop}
use Rattle.digits.specs.Bytes.{Bytes}
use Rattle.digits.specs.LittleEndian.{from_little}
use Rattle.form.specs.declared.Judgement.{Judgement}
use Rattle.form.specs.declared.Judgement.TheVariants.{Whole, Bad, Waiting}

-- -- The grammar

-- what the bytes from a place may be: nothing more (the frame's kind; inside a grammar, a piece's value), one byte, or a four-byte field.
-- A node has the reason if it is refused, the test of the byte or the number, and what follows it; a field's reason may depend on its
-- number
pub data Form : Type 0 where
  whole : ℕ → Form
  byte : ℕ → (ℕ → Bool) → (ℕ → Form) → Form
  word : (ℕ → ℕ) → (ℕ → Bool) → (ℕ → Form) → Form

infixl 10 ◌>>=◌
-- a piece, and then what its value says
unfoldable pub ◌>>=◌ : Form → (ℕ → Form) → Form
whole v >>= next = next v
byte r t f >>= next = byte r t (λ b. f b >>= next)
word r t f >>= next = word r t (λ v. f v >>= next)

infixl 10 ◌>>◌
-- a piece, and then another
abbrev pub ◌>>◌ : Form → Form → Form
p >> q = p >>= (λ _. q)

-- the number in four bytes, least significant first (paper 01, "mmWave")
abbrev pub joined : ℕ → ℕ → ℕ → ℕ → ℕ
joined a b c d = from_little (a ∷ b ∷ c ∷ d ∷ [])

-- -- The judgement

-- checks run in byte order and the first that fails gives the reason; a four-byte field is judged when its fourth byte is there (paper 01,
-- "Judging a place").
-- at is the offset of the first of the bytes
unfoldable pub judge : Form → ℕ → List ℕ → Judgement
judge (whole k) at bs = Whole k at
judge (byte r t f) at [] = Waiting
judge (byte r t f) at (b ∷ bs) = cond (t b) (judge (f b) (at + 1) bs) (Bad r)
judge (word r t f) at [] = Waiting
judge (word r t f) at (a ∷ []) = Waiting
judge (word r t f) at (a ∷ b ∷ []) = Waiting
judge (word r t f) at (a ∷ b ∷ c ∷ []) = Waiting
judge (word r t f) at (a ∷ b ∷ c ∷ d ∷ bs) = cond (t (joined a b c d)) (judge (f (joined a b c d)) (at + 4) bs) (Bad (r (joined a b c d)))

-- the judgement of a piece that starts at offset at of the bytes
abbrev pub judge_at : Form → ℕ → List ℕ → Judgement
judge_at p at bs = judge p at (drop at bs)

-- -- The declarative reading

-- the bytes, from first to last, have the form with this kind (paper 01, "Judging a place": a frame)
unfoldable pub Frame : Form → ℕ → List ℕ → Type 0
Frame (whole v) k [] = v ≡ k
Frame (whole v) k (b ∷ bs) = ⊥
Frame (byte r t f) k [] = ⊥
Frame (byte r t f) k (b ∷ bs) = (t b ≡ true) × Frame (f b) k bs
Frame (word r t f) k [] = ⊥
Frame (word r t f) k (a ∷ []) = ⊥
Frame (word r t f) k (a ∷ b ∷ []) = ⊥
Frame (word r t f) k (a ∷ b ∷ c ∷ []) = ⊥
Frame (word r t f) k (a ∷ b ∷ c ∷ d ∷ bs) = (t (joined a b c d) ≡ true) × Frame (f (joined a b c d)) k bs

-- a frame of this kind and length "stands" at the first of the bytes: they begin with it (paper 01, "Judging a place")
pub record Stands (p : Form) (kind size : ℕ) (bs : List ℕ) : Type 0 where
  pub within : size ≤ length bs
  pub frame : Frame p kind (take size bs)

-- some frame stands at the first of the bytes
pub record SomeStands (p : Form) (bs : List ℕ) : Type 0 where
  pub kind : ℕ
  pub size : ℕ
  pub stands : Stands p kind size bs

-- none stands there, and one does once some further bytes are put behind (paper 01, "Judging a place": further bytes "complete" a frame)
pub record Completable (p : Form) (bs : List ℕ) : Type 0 where
  pub none_yet : SomeStands p bs → ⊥
  pub more : List ℕ
  pub more_bytes : Bytes more
  pub completed : SomeStands p (bs ++ more)

-- the bytes "end inside" a four-byte field: every check before it holds and one to three of its bytes are there (paper 01, "Judging a
-- place")
unfoldable pub Inside : Form → List ℕ → Type 0
Inside (whole v) bs = ⊥
Inside (byte r t f) [] = ⊥
Inside (byte r t f) (b ∷ bs) = (t b ≡ true) × Inside (f b) bs
Inside (word r t f) [] = ⊥
Inside (word r t f) (a ∷ []) = Unit {0}
Inside (word r t f) (a ∷ b ∷ []) = Unit {0}
Inside (word r t f) (a ∷ b ∷ c ∷ []) = Unit {0}
Inside (word r t f) (a ∷ b ∷ c ∷ d ∷ bs) = (t (joined a b c d) ≡ true) × Inside (f (joined a b c d)) bs

-- at every node some byte (or number) is taken, and whatever is taken leaves a live rest: no check before the last one settles that nothing
-- can follow
unfoldable pub Live : Form → Type 0
Live (whole v) = Unit {0}
Live (byte r t f) = ((b : ℕ) × (b < 2 ^ 8) × (t b ≡ true)) × ((b : ℕ) → b < 2 ^ 8 → t b ≡ true → Live (f b))
Live (word r t f) = ((v : ℕ) × (v < 2 ^ 32) × (t v ≡ true)) × ((v : ℕ) → v < 2 ^ 32 → t v ≡ true → Live (f v))

-- the form has no four-byte field
unfoldable pub Plain : Form → Type 0
Plain (whole v) = Unit {0}
Plain (byte r t f) = (b : ℕ) → Plain (f b)
Plain (word r t f) = ⊥

-- the form is not over before its first byte
unfoldable pub Begins : Form → Type 0
Begins (whole v) = ⊥
Begins (byte r t f) = Unit {0}
Begins (word r t f) = Unit {0}
