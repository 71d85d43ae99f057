-- That the three-valued kind keeps the laws, as its impl has to show: by cases.
use Rattle.std.specs.Prelude.{◌≡◌, ℕ, refl}
use Rattle.std.proofs.Common.{arith}
use Rattle.kinds.specs.Algebra.{Laws}
use Rattle.kinds.specs.Three.{three}
use Rattle.kinds.specs.declared.three.Three.TheVariants.{No, Unknown, Yes}

apart : Yes ≡ No → ⊥
apart e = let z : ◌≡◌ {A = ℕ} 0 1 = cc in omega arith

pub three_laws : Laws three
three_laws = record {
  and_assoc = elim [
    | No ↦ λ y z. refl
    | Unknown ↦ elim [ No ↦ λ z. refl | Unknown ↦ elim [ No ↦ refl | Unknown ↦ refl | Yes ↦ refl ] | Yes ↦ λ z. refl ]
    | Yes ↦ λ y z. refl
  ];
  and_comm = elim [
    | No ↦ elim [ No ↦ refl | Unknown ↦ refl | Yes ↦ refl ]
    | Unknown ↦ elim [ No ↦ refl | Unknown ↦ refl | Yes ↦ refl ]
    | Yes ↦ elim [ No ↦ refl | Unknown ↦ refl | Yes ↦ refl ]
  ];
  or_assoc = elim [
    | No ↦ λ y z. refl
    | Unknown ↦ elim [ No ↦ λ z. refl | Unknown ↦ elim [ No ↦ refl | Unknown ↦ refl | Yes ↦ refl ] | Yes ↦ λ z. refl ]
    | Yes ↦ λ y z. refl
  ];
  or_comm = elim [
    | No ↦ elim [ No ↦ refl | Unknown ↦ refl | Yes ↦ refl ]
    | Unknown ↦ elim [ No ↦ refl | Unknown ↦ refl | Yes ↦ refl ]
    | Yes ↦ elim [ No ↦ refl | Unknown ↦ refl | Yes ↦ refl ]
  ];
  and_or = elim [
    | No ↦ λ y z. refl
    | Unknown ↦ elim [
      | No ↦ λ z. refl
      | Unknown ↦ elim [ No ↦ refl | Unknown ↦ refl | Yes ↦ refl ]
      | Yes ↦ elim [ No ↦ refl | Unknown ↦ refl | Yes ↦ refl ]
    ]
    | Yes ↦ λ y z. refl
  ];
  and_true = λ x. refl;
  or_false = λ x. refl;
  and_false = λ x. refl;
  not_not = elim [ No ↦ refl | Unknown ↦ refl | Yes ↦ refl ];
  not_and = elim [ No ↦ λ y. refl | Unknown ↦ elim [ No ↦ refl | Unknown ↦ refl | Yes ↦ refl ] | Yes ↦ λ y. refl ];
  differ = apart;
}
