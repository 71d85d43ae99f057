-- What was pushed together comes back together.
use Rattle.std.proofs.Common.{◌≡◌, ℕ, ◌≤◌, List, length, take, drop, sym, refl, ap, ◌∙◌, arith}
use Rattle.std.proofs.lemmas.List.{drop_at, take_at, length-take-le}
use Rattle.stack.specs.declared.Stack.{Stack}
use Rattle.stack.specs.Calls.{places, GrownBy, ShrunkBy}
use Rattle.std.proofs.lemmas.List.Edits.{paste_all}

pub pushed_back : {T : Type 0} {s t u : Stack T} {xs out : List T} {n : ℕ}
    → GrownBy s xs t → ShrunkBy t n out u → n ≡ length xs → out ≡ xs
pushed_back {s = s} {t = t} {u = u} {xs = xs} {out = out} {n = n} push pop e =
    let low : u.len ≡ s.len = omega (arith, push.len, pop.len) in
    let fits : s.len ≤ length (places s) = omega (arith, push.room) in
    pop.top ∙ ap (λ k. take n (drop k (places t))) low
    ∙ ap (λ (l : List _). take n (drop s.len l)) (push.filled ∙ paste_all (places s) s.len xs (length xs) refl)
    ∙ ap (λ (l : List _). take n l) (drop_at (take s.len (places s)) _ s.len (length-take-le s.len (places s) fits))
    ∙ take_at xs _ n (sym e)
