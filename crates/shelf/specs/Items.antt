-- Items in cell memory, spoken of with no item at hand where there is none. Assumes nothing.
use Rattle.std.specs.Prelude.{ℕ, ◌<◌, List, [], ◌∷◌, ◌++◌, take, drop, ◌≢◌}
use Rattle.shelf.specs.Standing.{Standing}

-- the item in cell k, as a list of one; past the memory, of none
abbrev pub pick : {T : Type 0} → List T → ℕ → List T
pick cells k = take 1 (drop k cells)

-- the items of some cells, in order
abbrev pub items_at : {T : Type 0} → List T → List ℕ → List T
items_at cells [] = []
items_at cells (k ∷ ks) = pick cells k ++ items_at cells ks

-- what chain c lists: the items in its cells, in order
abbrev pub list : {T : Type 0} → Standing → List T → ℕ → List T
list s cells c = items_at cells (s.chain c)

-- k is not among the cells
abbrev pub Without : ℕ → List ℕ → Type 0
Without k [] = Unit {0}
Without k (j ∷ js) = (j ≢ k) × Without k js

-- no cell is among both
abbrev pub Disjoint : List ℕ → List ℕ → Type 0
Disjoint [] ks = Unit {0}
Disjoint (j ∷ js) ks = Without j ks × Disjoint js ks

-- no cell is there twice
abbrev pub Distinct : List ℕ → Type 0
Distinct [] = Unit {0}
Distinct (k ∷ ks) = Without k ks × Distinct ks

-- each is one of the first n cells
abbrev pub Below : ℕ → List ℕ → Type 0
Below n [] = Unit {0}
Below n (k ∷ ks) = (k < n) × Below n ks
