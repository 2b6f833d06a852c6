-- Laws of the forms: as long as there is one of each, every file has these. Assumes nothing.
use mathlib.Core.Path.{◌≡◌, refl}
use Rattle.records.specs.Forms.{HeaderForm, byte_sides, CellForm, one_sad, Forms, plain_forms, header_bytes, cell_bytes, header_size, cell_size}

pub header-form : (form : HeaderForm) → byte_sides ≡ form
header-form byte_sides = refl

pub cell-form : (form : CellForm) → one_sad ≡ form
cell-form one_sad = refl

pub all_forms : (forms : Forms) → plain_forms ≡ forms
all_forms forms = λ i. record { header = header-form forms.header i; cell = cell-form forms.cell i }

pub header-size : (form : HeaderForm) → header_size form ≡ header_bytes
header-size byte_sides = refl

pub cell-size : (form : CellForm) → cell_size form ≡ cell_bytes
cell-size one_sad = refl
